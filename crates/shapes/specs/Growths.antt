-- The directions in which solids end, from what rays are asked against.
use Rattle.std.specs.Prelude.{ℕ, ◌+ℤ◌, ◌*ℤ◌}
use Rattle.fix_math.specs.declared.fix.V3.{V3}
use Rattle.shapes.specs.declared.axes.Form.{Form}
use Rattle.shapes.specs.declared.axes.WideForm.{WideForm}
use Rattle.shapes.specs.declared.conic.Conic.{Conic}
use Rattle.shapes.specs.declared.conic.Terms.{Terms}
use Rattle.shapes.specs.declared.cuboid.Cuboid.{Cuboid}
use Rattle.shapes.specs.declared.globe.Globe.{Globe}
use Rattle.shapes.specs.declared.taper.Taper.{Taper}
use Rattle.shapes.specs.declared.tube.Tube.{Tube}
use Rattle.shapes.specs.declared.body.Body.{Body}
use Rattle.shapes.specs.declared.body.Body.TheVariants.{Ball, Block, Half, Pipe, Cone, Bowl}
use Rattle.shapes.specs.declared.body.Solid.{Solid}
use Rattle.shapes.specs.Bodies.{own_of, taper_radius}
use Rattle.shapes.specs.Faces.{seen_from}
use Rattle.shapes.specs.Outward.{difference, multiple, out_of_ball, out_of_box, out_of_pipe, out_of_side}
use Rattle.shapes.specs.Rays.{Position}

-- how a form grows
abbrev pub form_row : Form → V3
form_row form = record { x = form.x.value; y = form.y.value; z = form.z.value }

abbrev pub wide_form_row : WideForm → V3
wide_form_row form = record { x = form.x.value; y = form.y.value; z = form.z.value }

abbrev pub globe_outward : Globe → Position → V3
globe_outward globe p =
    let axes = globe.axes in
    out_of_ball (own_of axes (seen_from axes.anchor p)) (form_row axes.first) (form_row axes.second) (form_row axes.third)

abbrev pub cuboid_outward : Cuboid → ℕ → V3
cuboid_outward cuboid face =
    out_of_box (form_row cuboid.axes.first) (form_row cuboid.axes.second) (form_row cuboid.axes.third) face

abbrev pub tube_outward : Tube → Position → ℕ → V3
tube_outward tube p face =
    let axes = tube.axes in
    out_of_side (out_of_pipe (own_of axes (seen_from axes.anchor p)) (form_row axes.first) (form_row axes.second)) (form_row axes.third) face

abbrev pub taper_outward : Taper → Position → ℕ → V3
taper_outward taper p face =
    let axes = taper.axes in let u = seen_from axes.anchor p in
    out_of_side
    (difference (out_of_pipe (own_of axes u) (form_row axes.first) (form_row axes.second)) (multiple (taper_radius taper u) (form_row taper.slope)))
    (form_row axes.third) face

abbrev pub terms_gradient : Terms → V3 → V3
terms_gradient q u = record {
  x = q.x.value +ℤ q.xx.value *ℤ u.x +ℤ q.xx.value *ℤ u.x +ℤ q.xy.value *ℤ u.y +ℤ q.xz.value *ℤ u.z;
  y = q.y.value +ℤ q.yy.value *ℤ u.y +ℤ q.yy.value *ℤ u.y +ℤ q.xy.value *ℤ u.x +ℤ q.yz.value *ℤ u.z;
  z = q.z.value +ℤ q.zz.value *ℤ u.z +ℤ q.zz.value *ℤ u.z +ℤ q.xz.value *ℤ u.x +ℤ q.yz.value *ℤ u.y;
}

abbrev pub conic_outward : Conic → Position → V3
conic_outward conic p = terms_gradient conic.terms (seen_from conic.anchor p)

abbrev pub body_outward : Body → Position → ℕ → V3
body_outward (Ball globe) p face = globe_outward globe p
body_outward (Block cuboid) p face = cuboid_outward cuboid face
body_outward (Half half) p face = wide_form_row half.row
body_outward (Pipe tube) p face = tube_outward tube p face
body_outward (Cone taper) p face = taper_outward taper p face
body_outward (Bowl conic) p face = conic_outward conic p

-- out of a face of a solid at a point
abbrev pub solid_outward : Solid → Position → ℕ → V3
solid_outward solid p face = body_outward solid.body p face
