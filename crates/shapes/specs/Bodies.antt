-- Solids as rays are asked against them: each with its anchor and what is multiplied by a point's coordinates.
use Rattle.std.specs.Prelude.{ℤ, pos, ◌+ℤ◌, ◌*ℤ◌, List, [], ◌∷◌, ◌++◌, Bool, int_le}
use Rattle.fix_math.specs.declared.fix.V3.{V3}
use Rattle.shapes.specs.declared.axes.Axes.{Axes}
use Rattle.shapes.specs.declared.axes.Form.{Form}
use Rattle.shapes.specs.declared.axes.WideForm.{WideForm}
use Rattle.shapes.specs.declared.conic.Conic.{Conic}
use Rattle.shapes.specs.declared.conic.Terms.{Terms}
use Rattle.shapes.specs.declared.cuboid.Cuboid.{Cuboid}
use Rattle.shapes.specs.declared.globe.Globe.{Globe}
use Rattle.shapes.specs.declared.half_space.HalfSpace.{HalfSpace}
use Rattle.shapes.specs.declared.taper.Taper.{Taper}
use Rattle.shapes.specs.declared.tube.Tube.{Tube}
use Rattle.shapes.specs.Faces.{seen_from, in_ball, in_pipe, in_taper, ends}
use Rattle.shapes.specs.Rays.{Position}

-- a sum of products with a point's coordinates
abbrev pub form_at : Form → V3 → ℤ
form_at form u = form.x.value *ℤ u.x +ℤ form.y.value *ℤ u.y +ℤ form.z.value *ℤ u.z

abbrev pub wide_form_at : WideForm → V3 → ℤ
wide_form_at form u = form.x.value *ℤ u.x +ℤ form.y.value *ℤ u.y +ℤ form.z.value *ℤ u.z

-- the coordinates along a solid's axes
abbrev pub own_of : Axes → V3 → V3
own_of axes u = record { x = form_at axes.first u; y = form_at axes.second u; z = form_at axes.third u }

abbrev pub globe_faces : Globe → Position → List Bool
globe_faces globe p = in_ball globe.radius.value (own_of globe.axes (seen_from globe.axes.anchor p)) ∷ []

abbrev pub cuboid_faces : Cuboid → Position → List Bool
cuboid_faces cuboid p =
    let l = own_of cuboid.axes (seen_from cuboid.axes.anchor p) in
    ends cuboid.x.value l.x ++ (ends cuboid.y.value l.y ++ ends cuboid.z.value l.z)

abbrev pub half_space_faces : HalfSpace → Position → List Bool
half_space_faces half p = int_le (wide_form_at half.row (seen_from half.anchor p)) half.limit.value ∷ []

abbrev pub tube_faces : Tube → Position → List Bool
tube_faces tube p =
    let l = own_of tube.axes (seen_from tube.axes.anchor p) in
    in_pipe tube.radius.value l ∷ ends tube.height.value l.z

-- the radius of a taper at a point
abbrev pub taper_radius : Taper → V3 → ℤ
taper_radius taper u = form_at taper.slope u +ℤ taper.start.value

abbrev pub taper_faces : Taper → Position → List Bool
taper_faces taper p =
    let u = seen_from taper.axes.anchor p in let l = own_of taper.axes u in
    in_taper taper.widest.value (taper_radius taper u) l ∷ ends taper.height.value l.z

abbrev pub terms_at : Terms → V3 → ℤ
terms_at q u =
    q.xx.value *ℤ (u.x *ℤ u.x) +ℤ q.yy.value *ℤ (u.y *ℤ u.y) +ℤ q.zz.value *ℤ (u.z *ℤ u.z)
    +ℤ q.xy.value *ℤ (u.x *ℤ u.y) +ℤ q.xz.value *ℤ (u.x *ℤ u.z) +ℤ q.yz.value *ℤ (u.y *ℤ u.z)
    +ℤ q.x.value *ℤ u.x +ℤ q.y.value *ℤ u.y +ℤ q.z.value *ℤ u.z +ℤ q.one.value

abbrev pub conic_faces : Conic → Position → List Bool
conic_faces conic p = int_le (terms_at conic.terms (seen_from conic.anchor p)) (pos 0) ∷ []
