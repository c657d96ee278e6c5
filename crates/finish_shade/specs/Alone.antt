-- Surfaces that show no more than their own light.
use Rattle.std.specs.Prelude.{ℕ, ℤ, pos, Bool, ◌&&◌, ◌||◌, length, nat_eq}
use Rattle.std.specs.Ordering.{int_eq}
use Rattle.scene_model.specs.declared.scene.Scene.{Scene}
use Rattle.scene_model.specs.declared.texture.Finish.{Finish}
use Rattle.finish_shade.specs.declared.met.Look.{Look}
use Rattle.finish_shade.specs.Amounts.{is_weak, let_through, weight_of}

-- a finish to which no lamp adds anything
abbrev pub is_dull : Finish → Bool
is_dull finish = int_eq finish.diffuse (pos 0) && (int_eq finish.phong (pos 0) && int_eq finish.specular (pos 0))

-- where no lamp is, or none adds anything
abbrev pub is_unlit : Scene → Look → Bool
is_unlit scene look = nat_eq (length scene.lights.items) 0 || is_dull look.finish

-- where neither of the two rays that go on counts for anything
abbrev pub is_end : Scene → Look → ℕ → ℤ → Bool
is_end scene look levels weight =
    nat_eq levels 1 || (is_weak scene.adc (weight_of weight look.finish.reflection) && is_weak scene.adc (weight_of weight (let_through look.colour)))

abbrev pub shows_itself : Scene → Look → ℕ → ℤ → Bool
shows_itself scene look levels weight = is_unlit scene look && is_end scene look levels weight
