-- What a plan asks for can be drawn.
use Rattle.std.specs.Prelude.{◌==◌, ◌||◌, IfSome}
use Rattle.std.proofs.Common.{◌≡◌, ◌⊎◌, ℕ, true, Option, Some, None, inl, sym, subst, ◌∙◌, arith}
use Rattle.std.proofs.lemmas.Bool.Decides.{nat_tests}
use Rattle.image_out.specs.declared.picture.Sort.{Sort}
use Rattle.image_out.specs.declared.picture.Sort.TheVariants.{Ppm, Targa, TargaRle}
use Rattle.scene_model.specs.declared.scene.Scene.{Scene}
use Rattle.scene_model.specs.Valid.{Valid}
use Rattle.csg_hits.specs.Surfaces.{Surfaces, surfaces_of, without_sheets}
use Rattle.frame_trace.specs.declared.format.Format.{Format}
use Rattle.frame_trace.specs.Ready.{IsDeep, IsReady, valid_ready}
use Rattle.options.specs.declared.plan.Antialias.{Antialias}
use Rattle.options.specs.declared.plan.Plan.{Plan}
use Rattle.options.specs.Plans.{bits_fit, IsAntialias, IsPlan}
use Rattle.povfix.specs.Frames.{format_of, smoothing}

either_depth : (bits : ℕ) → (bits == 8 || bits == 16) ≡ true → (bits ≡ 8) ⊎ (bits ≡ 16)
either_depth bits fits = grind (arith, nat_tests)

short_depth : (bits : ℕ) → (bits == 8) ≡ true → bits ≡ 8
short_depth bits fits = grind (arith, nat_tests)

depth : (sort : Sort) (bits : ℕ) → bits_fit sort bits ≡ true → (bits ≡ 8) ⊎ (bits ≡ 16)
depth Ppm bits fits = either_depth bits fits
depth Targa bits fits = inl (short_depth bits fits)
depth TargaRle bits fits = inl (short_depth bits fits)

deep : (antialias : Option Antialias) → IfSome antialias IsAntialias → IfSome (smoothing antialias) IsDeep
deep None fits = tt
deep (Some antialias) fits = record { some = fits.1; few = fits.2 }

-- a valid scene is ready to be drawn in a plan's format, by a world that stands for it
pub ready : (plan : Plan) (scene : Scene) (world built : Surfaces) (format : Format) → IsPlan plan → Valid scene → world ≡ built → built ≡ without_sheets (surfaces_of scene) → format ≡ format_of plan.width plan.height plan.bits plan.antialias → IsReady (record { surfaces = world; scene = scene; format = format })
ready plan scene world built format fits valid same stands is =
    subst (λ f. IsReady (record { surfaces = world; scene = scene; format = f })) (sym is)
    (valid_ready (record { surfaces = world; scene = scene; format = format_of plan.width plan.height plan.bits plan.antialias }) valid (same ∙ stands) (depth plan.sort plan.bits fits.bits) (deep plan.antialias fits.antialias))
