-- That what a read gives is one of the present images: the law of the trait, for a shelf in memory.
use Rattle.std.proofs.Common.{◌≡◌, ℕ, List, ◌∷◌, length, Some, if◌then◌else◌, inl, inr, refl, sym, ap, subst}
use Rattle.std.proofs.lemmas.Bool.{eq-eqb}
use Rattle.std.specs.Option.{IsSomeAnd}
use Rattle.shelf.specs.Past.{files_at, images_at, AllSound}
use Rattle.shelf.specs.Stored.{Stored, IsLeft, AreSound, texts_in, images_in}

-- the files at the present moment
pub now_files : (files : List Stored) (past : List (List Stored)) → files_at (files ∷ past) (length past) ≡ Some files
now_files files past = ap (λ b. if b then Some files else files_at past (length past)) (eq-eqb (length past) (length past) refl)

-- what a read gives of files is left of them
pub reads_one : (files : List Stored) → AreSound files → (n c : List ℕ) → texts_in files n c → images_in files n c
reads_one files sound n c (inl r) = inl (record {
  place = r.place;
  file = r.file;
  found = r.found;
  named = r.named;
  shows = subst (λ t. IsLeft r.file.left t) r.shows (sound r.place r.file r.found).reads;
})
reads_one files sound n c (inr r) = inr r

pub reads_left : (files : List Stored) (past : List (List Stored)) → AllSound (files ∷ past) → (n c : List ℕ) → texts_in files n c → images_at (files ∷ past) (length past) n c
reads_left files past sound n c held = subst (λ o. IsSomeAnd o (λ fs. images_in fs n c)) (sym (now_files files past))
    (reads_one files (sound (length past) files (now_files files past)) n c held)
