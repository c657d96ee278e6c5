-- The moments of a shelf in memory: the present one, and those before it.
use Rattle.std.proofs.Common.{◌≡◌, ◌<◌, ◌≤◌, ◌⊎◌, ℕ, zero, suc, List, [], ◌∷◌, length, Some, if◌then◌else◌, inl, inr, refl, sym, ap, ◌∙◌, subst, arith}
use Rattle.std.specs.List.{slice_get}
use Rattle.std.specs.Option.{IsSomeAnd}
use Rattle.std.proofs.lemmas.Bool.{cases_eq, cases_lt, ne_eqb}
use Rattle.std.proofs.lemmas.Option.{same_Some, none-some}
use Rattle.shelf.specs.Disk.{Becomes, Follows, SameContents, SameOthers, Within}
use Rattle.shelf.specs.Moments.{Passes}
use Rattle.shelf.specs.Past.{files_at, images_at, AllSound}
use Rattle.shelf.specs.Reads.{now_files, reads_one}
use Rattle.shelf.specs.Stored.{Stored, IsAbsent, texts_in, images_in, AreSound}
use Rattle.shelf.proofs.ShelfLemmas.{cases_names}

pub earlier_files : (files : List Stored) (past : List (List Stored)) (m : ℕ) → m < length past → files_at (files ∷ past) m ≡ files_at past m
earlier_files files past m lt = ap (λ b. if b then Some files else files_at past m) (ne_eqb m (length past) (λ e. omega (arith, lt, e)))

-- the present moment is told
pub from_now : (files : List Stored) (past : List (List Stored)) (n c : List ℕ) → images_at (files ∷ past) (length past) n c → images_in files n c
from_now files past n c left = subst (λ o. IsSomeAnd o (λ fs. images_in fs n c)) (now_files files past) left

pub at_now : (files : List Stored) (past : List (List Stored)) (n c : List ℕ) → images_in files n c → images_at (files ∷ past) (length past) n c
at_now files past n c left = subst (λ o. IsSomeAnd o (λ fs. images_in fs n c)) (sym (now_files files past)) left

at_earlier : (files : List Stored) (past : List (List Stored)) (m : ℕ) (n c : List ℕ) → m < length past → images_at (files ∷ past) m n c → images_at past m n c
at_earlier files past m n c lt left = subst (λ o. IsSomeAnd o (λ fs. images_in fs n c)) (earlier_files files past m lt) left

from_earlier : (files : List Stored) (past : List (List Stored)) (m : ℕ) (n c : List ℕ) → m < length past → images_at past m n c → images_at (files ∷ past) m n c
from_earlier files past m n c lt left = subst (λ o. IsSomeAnd o (λ fs. images_in fs n c)) (sym (earlier_files files past m lt)) left

-- ---- clauses on what a crash now may leave

pub same_now : (old new : List Stored) (before past : List (List Stored)) → SameContents (images_in old) (images_in new)
    → SameContents (images_at (old ∷ before) (length before)) (images_at (new ∷ past) (length past))
same_now old new before past same = λ n c left. at_now old before n c (same n c (from_now new past n c left))

pub others_now : (name : List ℕ) (old new : List Stored) (before past : List (List Stored)) → SameOthers name (images_in old) (images_in new)
    → SameOthers name (images_at (old ∷ before) (length before)) (images_at (new ∷ past) (length past))
others_now name old new before past same = λ n c apart left. at_now old before n c (same n c apart (from_now new past n c left))

pub follows_now : (step : List ℕ → List ℕ → Type 0) (name : List ℕ) (old new : List Stored) (before past : List (List Stored)) → Follows step (images_in old name) (images_in new name)
    → Follows step (images_at (old ∷ before) (length before) name) (images_at (new ∷ past) (length past) name)
follows_now step name old new before past follows = λ c left. let d = follows c (from_now new past name c left) in (d.0, at_now old before name d.0 d.1, d.2)

pub within_now : (name : List ℕ) (these : List ℕ → Type 0) (new : List Stored) (past : List (List Stored)) → Within these (images_in new name)
    → Within these (images_at (new ∷ past) (length past) name)
within_now name these new past within = λ c left. within c (from_now new past name c left)

-- ---- time

-- a call that adds no moment
pub still : (old new : List Stored) (past : List (List Stored)) → Passes (length past) (length past) (images_at (old ∷ past)) (images_at (new ∷ past))
still old new past = record {
  later = omega arith;
  each = λ m le. elim (cases_lt m (length past)) [
    | inl lt ↦ inl (le, λ n c left. from_earlier old past m n c lt (at_earlier new past m n c lt left))
    | inr ge ↦ let e : m ≡ length past = omega (arith, le, ge) in inr (λ n c left. subst (λ k. images_at (new ∷ past) k n c) e left)
  ];
}

passes_by : (old new : List Stored) (past : List (List Stored)) → Passes (length past) (length (old ∷ past)) (images_at (old ∷ past)) (images_at (new ∷ old ∷ past))
passes_by old new past = record {
  later = omega arith;
  each = λ m le. elim (cases_lt m (length (old ∷ past))) [
    | inl lt ↦ inl (omega (arith, lt), λ n c left. at_earlier new (old ∷ past) m n c lt left)
    | inr ge ↦ let e : m ≡ length (old ∷ past) = omega (arith, le, ge) in inr (λ n c left. subst (λ k. images_at (new ∷ old ∷ past) k n c) e left)
  ];
}

-- a call that adds one
pub passes : (old new : List Stored) (before past : List (List Stored)) → past ≡ old ∷ before → Passes (length before) (length past) (images_at (old ∷ before)) (images_at (new ∷ past))
passes old new before past e = subst (λ p. Passes (length before) (length p) (images_at (old ∷ before)) (images_at (new ∷ p))) (sym e) (passes_by old new before)

-- ---- soundness

pub sound_now : (files : List Stored) (past : List (List Stored)) → AllSound (files ∷ past) → AreSound files
sound_now files past sound = sound (length past) files (now_files files past)

-- other files in the place of the present ones
pub sound_still : (old new : List Stored) (past : List (List Stored)) → AllSound (old ∷ past) → AreSound new → AllSound (new ∷ past)
sound_still old new past sound here = λ m files e. elim (cases_eq m (length past)) [
  | inl a ↦ let is : new ≡ files = same_Some new files (sym (now_files new past) ∙ ap (λ k. files_at (new ∷ past) k) (sym a) ∙ e) in subst AreSound is here
  | inr a ↦ let same = λ (files : List Stored). ap (λ b. if b then Some files else files_at past m) (ne_eqb m (length past) a) in
      sound m files (same old ∙ sym (same new) ∙ e)
]

sound_passes_by : (old new : List Stored) (past : List (List Stored)) → AllSound (old ∷ past) → AreSound new → AllSound (new ∷ old ∷ past)
sound_passes_by old new past sound here = λ m files e. elim (cases_eq m (length (old ∷ past))) [
  | inl a ↦ let is : new ≡ files = same_Some new files (sym (now_files new (old ∷ past)) ∙ ap (λ k. files_at (new ∷ old ∷ past) k) (sym a) ∙ e) in subst AreSound is here
  | inr a ↦ sound m files (sym (ap (λ b. if b then Some new else files_at (old ∷ past) m) (ne_eqb m (length (old ∷ past)) a)) ∙ e)
]

-- other files behind them
pub sound_passes : (old new : List Stored) (before past : List (List Stored)) → past ≡ old ∷ before → AllSound (old ∷ before) → AreSound new → AllSound (new ∷ past)
sound_passes old new before past e sound here = subst (λ p. AllSound (new ∷ p)) (sym e) (sound_passes_by old new before sound here)

-- ---- every moment has its images

-- a name's file, or none
absent_in_both : (x : Stored) (files : List Stored) (name : List ℕ) → (x.name ≡ name → ⊥) → IsAbsent files name → IsAbsent (x ∷ files) name
absent_in_both x files name apart none zero f e = λ same. apart (ap (λ y. y.name) (same_Some x f e) ∙ same)
absent_in_both x files name apart none (suc k) f e = none k f e

pub find_name : (files : List Stored) (name : List ℕ) → ((k : ℕ) × (f : Stored) × (slice_get files k ≡ Some f) × (f.name ≡ name)) ⊎ IsAbsent files name
find_name [] name = inr (λ k f e. absurd (none-some f e))
find_name (x ∷ files) name = elim (cases_names x.name name) [
  | inl a ↦ inl (0, x, refl, a)
  | inr a ↦ elim (find_name files name) [
    | inl found ↦ inl (suc found.0, found.1, found.2, found.3)
    | inr none ↦ inr (absent_in_both x files name a none)
  ]
]

some_image : (files : List Stored) → AreSound files → (n : List ℕ) → (c : List ℕ) × images_in files n c
some_image files sound n = elim (find_name files n) [
  | inl found ↦ (found.1.text, inl (record { place = found.0; file = found.1; found = found.2; named = found.3; shows = (sound found.0 found.1 found.2).reads }))
  | inr none ↦ ([], inr (none, refl))
]

files_told : (told : List (List Stored)) (m : ℕ) → m < length told → (fs : List Stored) × (files_at told m ≡ Some fs)
files_told [] m lt = absurd (omega (arith, lt))
files_told (files ∷ past) m lt = elim (cases_eq m (length past)) [
  | inl a ↦ (files, ap (λ k. files_at (files ∷ past) k) a ∙ now_files files past)
  | inr a ↦ let earlier = files_told past m (omega (arith, lt, a)) in (earlier.0, ap (λ b. if b then Some files else files_at past m) (ne_eqb m (length past) a) ∙ earlier.1)
]

pub all_told : (files : List Stored) (past : List (List Stored)) → AllSound (files ∷ past) → (m : ℕ) → m ≤ length past → (n : List ℕ) → (c : List ℕ) × images_at (files ∷ past) m n c
all_told files past sound m le n =
    let there = files_told (files ∷ past) m (omega (arith, le)) in
    let image = some_image there.0 (sound m there.0 there.1) n in
    (image.0, subst (λ o. IsSomeAnd o (λ fs. images_in fs n image.0)) (sym there.1) image.1)

-- ---- a sync

-- what is left of a file that was synced was left of it before
pub synced_back : (name : List ℕ) (files new : List Stored) → AreSound files → Becomes name (λ _ c. texts_in files name c) (images_in files) (images_in new)
    → SameContents (images_in files) (images_in new)
synced_back name files new sound becomes = λ n c left. elim (cases_names n name) [
  | inl a ↦ let held : texts_in files name c = (becomes.back c (subst (λ m. images_in new m c) a left)).2 in
      subst (λ m. images_in files m c) (sym a) (reads_one files sound name c held)
  | inr a ↦ becomes.others_back n c a left
]
