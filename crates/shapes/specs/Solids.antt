-- The faces of the solids of leaves.
use Rattle.std.specs.Prelude.{List, [], ◌∷◌, Bool, false}
use Rattle.scene_model.specs.declared.shape.Primitive.{Primitive}
use Rattle.shapes.specs.Bodies.{globe_faces, cuboid_faces, half_space_faces, tube_faces, taper_faces, conic_faces, own_of, taper_radius}
use Rattle.shapes.specs.Faces.{seen_from, in_pipe, in_taper}
use Rattle.shapes.specs.Rays.{Position}
use Rattle.shapes.specs.declared.body.Body.{Body}
use Rattle.shapes.specs.declared.body.Body.TheVariants.{Ball, Block, Half, Pipe, Cone, Bowl}
use Rattle.shapes.specs.declared.body.Solid.{Solid}

abbrev pub body_faces : Body → Position → List Bool
body_faces (Ball globe) p = globe_faces globe p
body_faces (Block cuboid) p = cuboid_faces cuboid p
body_faces (Half half) p = half_space_faces half p
body_faces (Pipe tube) p = tube_faces tube p
body_faces (Cone taper) p = taper_faces taper p
body_faces (Bowl conic) p = conic_faces conic p

-- whether each face of a solid holds at a point
abbrev pub solid_faces : Solid → Position → List Bool
solid_faces solid p = body_faces solid.body p

-- the face that counts where the ends don't: the side of a cylinder and of a cone; of another solid all faces
abbrev pub side_faces : Body → Position → List Bool
side_faces (Pipe tube) p = in_pipe tube.radius.value (own_of tube.axes (seen_from tube.axes.anchor p)) ∷ []
side_faces (Cone taper) p =
    let u = seen_from taper.axes.anchor p in
    in_taper taper.widest.value (taper_radius taper u) (own_of taper.axes u) ∷ []
side_faces (Ball globe) p = globe_faces globe p
side_faces (Block cuboid) p = cuboid_faces cuboid p
side_faces (Half half) p = half_space_faces half p
side_faces (Bowl conic) p = conic_faces conic p

abbrev pub solid_side : Solid → Position → List Bool
solid_side solid p = side_faces solid.body p

-- whether a solid's ends are open
abbrev pub is_uncapped : Primitive → Bool
is_uncapped (Primitive.Sphere r) = false
is_uncapped (Primitive.Box size) = false
is_uncapped (Primitive.Plane normal d) = false
is_uncapped (Primitive.Cylinder r h uncapped) = uncapped
is_uncapped (Primitive.Cone ra rb h axis uncapped) = uncapped
is_uncapped (Primitive.Quadric c) = false
