-- Words and texts mean one list of bytes at most.
use Rattle.std.proofs.Common.{◌≡◌, ℕ, ℤ, pos, List, Ok, refl, sym, ap, ◌∙◌, subst}
use Rattle.scene_model.specs.declared.scene.Scene.{Scene}
use Rattle.scene_parser.specs.Seen.{SceneView}
use Rattle.shapes.specs.declared.ray.Ray.{Ray}
use Rattle.finish_shade.specs.Alike.{LookAlike, solids_of}
use Rattle.finish_shade.specs.Shades.{IsShade}
use Rattle.frame_trace.specs.OnePicture.{ShowAlike, one_picture}
use Rattle.directive_machine.specs.declared.texts.Text.{Text}
use Rattle.directive_machine.specs.Expansions.{Handed}
use Rattle.povfix.specs.Frames.{Frame, filed, format_of, sight_of, IsMeaning, IsMeant, Shows}
use Rattle.povfix.specs.Scenes.{IsRead}
use Rattle.povfix.proofs.Alike.{look_alike}
use Rattle.povfix.proofs.OneFrame.{OneExpansion, OneScene, one_expanded, one_read}
use Rattle.povfix.proofs.Verdicts.{OneShown}

-- in scenes that look alike a ray shows one colour
abbrev pub OneShade : Type 0
OneShade = (a b : Scene) → LookAlike a b → (levels : ℕ) (ray : Ray) (weight : ℤ) (c d : List ℤ) → IsShade (solids_of a) a levels ray weight c → IsShade (solids_of b) b levels ray weight d → c ≡ d

pub one_shown : OneShade → OneShown
one_shown law frame seen x y p q =
    let same = p.same ∙ sym q.same in
    let alike = look_alike p.scene q.scene same in
    let format = format_of frame.width frame.height frame.bits frame.antialias in
    let shown : ShowAlike (sight_of p.scene format) (sight_of q.scene format) = record {
      format = refl;
      camera = ap (λ (v : SceneView). v.camera) same;
      shades = λ ray a b one other. law p.scene q.scene alike p.scene.levels ray (pos 65536) a b one (subst (λ n. IsShade (solids_of q.scene) q.scene n ray (pos 65536) b) (sym alike.levels) other);
    } in
    one_picture (sight_of p.scene format) (sight_of q.scene format) shown x y p.shown q.shown

module _ (law : OneExpansion) (scenes : OneScene) (pictures : OneShown) (frame : Frame) (texts : List Text) where
  one_meant : (a b : SceneView) → IsMeant frame texts a → IsMeant frame texts b → a ≡ b
  one_meant a b p q =
      let same : q.found ≡ p.found = one_expanded law frame texts q.found p.found q.expanded p.expanded in
      let here = subst (λ (found : Handed). IsRead found.tokens frame.settings (Ok b)) same q.read in
      cc (one_read scenes p.found.tokens frame.settings (Ok a) (Ok b) p.read here)

  pub one_meaning : (a b : List ℕ) → IsMeaning frame texts a → IsMeaning frame texts b → a ≡ b
  one_meaning a b p q =
      let same : q.scene ≡ p.scene = one_meant q.scene p.scene q.meant p.meant in
      let shown : p.picture ≡ q.picture = pictures frame p.scene p.picture q.picture p.shown (subst (λ s. Shows frame s q.picture) same q.shown) in
      p.is ∙ ap (filed frame) shown ∙ sym q.is
