-- What picks leave is one of the images, and each image has its picks.
use Rattle.std.proofs.Common.{◌≡◌, ◌+◌, ◌*◌, ◌<◌, ◌≤◌, ℕ, zero, suc, false, List, [], ◌∷◌, ◌++◌, length, take, drop, get_or, Option, Some, None, if◌then◌else◌, inl, inr, refl, sym, ap, ◌∙◌, subst, arith, append-nil}
use Rattle.std.specs.List.{slice_get}
use Rattle.std.specs.Option.{option_and_then}
use Rattle.std.proofs.lemmas.Bool.{cases_lt}
use Rattle.std.proofs.lemmas.List.{drop_all, take_all, drop_more}
use Rattle.std.proofs.lemmas.Option.{same_Some, none-some, slice_get_read}
use Rattle.shelf.specs.Disk.{Held, SameContents}
use Rattle.shelf.specs.Picks.{byte_by, IsPicked, IsPickedFile, ArePicked}
use Rattle.shelf.specs.Stored.{Stored, IsLeft, IsSound, AreSound, OneEach, IsAbsent, texts_in, images_in, slot_of, slots_in}
use Rattle.shelf.proofs.ImageLemmas.{settled_alone, sound_settled}
use Rattle.shelf.proofs.PastLemmas.{find_name}

-- ---- one file

pub picked_left : (file : Stored) (picks c : List ℕ) → IsSound file → IsPicked file picks c → IsLeft file.left c
picked_left file picks c sound p = record {
  no_shorter = elim (cases_lt (length c) (length file.left.touched)) [
    | inl lt ↦ (p.ends lt).may
    | inr ge ↦ omega (arith, ge, sound.reads.no_shorter, sound.reads.no_longer)
  ];
  no_longer = p.no_longer;
  kept = λ k lt un. p.bytes k lt ∙ ap (λ b. byte_by b (get_or file.left.synced k 0) (get_or file.text k 0) (get_or picks (2 * k) 0) (get_or picks (2 * k + 1) 0)) un;
}

-- ---- each file in its turn

-- a file, and what is left of it
pub record Pair (files now : List Stored) (k : ℕ) : Type 0 where
  pub was : Stored
  pub is : Stored
  pub picks : List ℕ
  pub before : slice_get files k ≡ Some was
  pub after : slice_get now k ≡ Some is
  pub left : IsPickedFile was picks is

further : (f g : Stored) (files now : List Stored) (k : ℕ) → Pair files now k → Pair (f ∷ files) (g ∷ now) (suc k)
further f g files now k p = record { was = p.was; is = p.is; picks = p.picks; before = p.before; after = p.after; left = p.left }

pub pair_after : (files : List Stored) (picks : List ℕ) (now : List Stored) → ArePicked files picks now → (k : ℕ) (g : Stored) → slice_get now k ≡ Some g → Pair files now k
pair_after [] picks [] are k g e = absurd (none-some g e)
pair_after [] picks (g' ∷ now) are k g e = absurd are
pair_after (f ∷ files) picks [] are k g e = absurd are
pair_after (f ∷ files) picks (g' ∷ now) are zero g e = record { was = f; is = g'; picks = picks; before = refl; after = refl; left = are.0 }
pair_after (f ∷ files) picks (g' ∷ now) are (suc k) g e = further f g' files now k (pair_after files (drop (2 * length f.left.touched) picks) now are.1 k g e)

pub pair_before : (files : List Stored) (picks : List ℕ) (now : List Stored) → ArePicked files picks now → (k : ℕ) (f : Stored) → slice_get files k ≡ Some f → Pair files now k
pair_before [] picks now are k f e = absurd (none-some f e)
pair_before (f' ∷ files) picks [] are k f e = absurd are
pair_before (f' ∷ files) picks (g ∷ now) are zero f e = record { was = f'; is = g; picks = picks; before = refl; after = refl; left = are.0 }
pair_before (f' ∷ files) picks (g ∷ now) are (suc k) f e = further f' g files now k (pair_before files (drop (2 * length f'.left.touched) picks) now are.1 k f e)

-- what is left of a file at a place
pub is_there : (files now : List Stored) (k : ℕ) (p : Pair files now k) (g : Stored) → slice_get now k ≡ Some g → p.is ≡ g
is_there files now k p g e = same_Some p.is g (sym p.after ∙ e)

pub was_there : (files now : List Stored) (k : ℕ) (p : Pair files now k) (f : Stored) → slice_get files k ≡ Some f → p.was ≡ f
was_there files now k p f e = same_Some p.was f (sym p.before ∙ e)

absent_now : (files : List Stored) (picks : List ℕ) (now : List Stored) → ArePicked files picks now → (n : List ℕ) → IsAbsent now n → IsAbsent files n
absent_now files picks now are n absent = λ k f e same.
    let p = pair_before files picks now are k f e in
    absent k p.is p.after (p.left.named ∙ ap (λ x. x.name) (was_there files now k p f e) ∙ same)

pub left_of : (files : List Stored) (picks : List ℕ) (now : List Stored) → AreSound files → ArePicked files picks now → SameContents (images_in files) (texts_in now)
left_of files picks now sound are = λ n c given. elim given [
  | inl r ↦ let p = pair_after files picks now are r.place r.file r.found in
      let is_file : p.is ≡ r.file = is_there files now r.place p r.file r.found in
      inl (record {
        place = r.place;
        file = p.was;
        found = p.before;
        named = sym p.left.named ∙ ap (λ x. x.name) is_file ∙ r.named;
        shows = subst (λ t. IsLeft p.was.left t) (ap (λ x. x.text) is_file ∙ r.shows) (picked_left p.was p.picks p.is.text (sound r.place p.was p.before) p.left.picked);
      })
  | inr r ↦ inr (absent_now files picks now are n r.0, r.1)
]

pub told_of : (now : List Stored) (n : List ℕ) → (c : List ℕ) × texts_in now n c
told_of now n = elim (find_name now n) [
  | inl found ↦ (found.1.text, inl (record { place = found.0; file = found.1; found = found.2; named = found.3; shows = refl }))
  | inr none ↦ ([], inr (none, refl))
]

pub settled_of : (files : List Stored) (picks : List ℕ) (now : List Stored) → ArePicked files picks now → SameContents (texts_in now) (images_in now)
settled_of files picks now are = λ n c given. elim given [
  | inl r ↦ let p = pair_after files picks now are r.place r.file r.found in
      let is_file : p.is ≡ r.file = is_there files now r.place p r.file r.found in
      let left : IsLeft p.is.left c = subst (λ f. IsLeft f.left c) (sym is_file) r.shows in
      inl (record { place = r.place; file = r.file; found = r.found; named = r.named; shows = sym (settled_alone p.is.text p.is.left p.left.settled c left ∙ ap (λ x. x.text) is_file) })
  | inr r ↦ inr r
]

not_held : (file : Stored) → file.is_held ≡ false → slot_of file ≡ None
not_held file e = ap (λ b. if b then Some (let h : Held = record { name = file.name; most = file.most } in h) else None) e

free_by : (files : List Stored) (picks : List ℕ) (now : List Stored) → ArePicked files picks now → (k : ℕ) (o : Option Stored) → slice_get now k ≡ o → option_and_then slot_of o ≡ None
free_by files picks now are k None e = refl
free_by files picks now are k (Some g) e =
    let p = pair_after files picks now are k g e in
    not_held g (sym (ap (λ x. x.is_held) (is_there files now k p g e)) ∙ p.left.free)

pub free_of : (files : List Stored) (picks : List ℕ) (now : List Stored) → ArePicked files picks now → (k : ℕ) → slots_in now k ≡ None
free_of files picks now are k = free_by files picks now are k (slice_get now k) refl

pub one_each_of : (files : List Stored) (picks : List ℕ) (now : List Stored) → ArePicked files picks now → OneEach files → OneEach now
one_each_of files picks now are each = λ i j f g fi gj same.
    let a = pair_after files picks now are i f fi in
    let b = pair_after files picks now are j g gj in
    each i j a.was b.was a.before b.before
    (sym a.left.named ∙ ap (λ x. x.name) (is_there files now i a f fi) ∙ same ∙ sym (ap (λ x. x.name) (is_there files now j b g gj)) ∙ b.left.named)

pub sound_picked : (files : List Stored) (picks : List ℕ) (now : List Stored) → ArePicked files picks now → AreSound now
sound_picked files picks now are = λ k g e.
    let p = pair_after files picks now are k g e in
    subst IsSound (is_there files now k p g e) (sound_settled p.is p.left.settled)

-- ---- the loop over the files

-- the file that comes next is as it was
pub next_file : (i : ℕ) (now files : List Stored) (was : Stored) → i < length now → length now ≡ length files → drop i now ≡ drop i files → was ≡ get_or now i was → slice_get files i ≡ Some was
next_file i now files was lt long ahead read =
    let heads : get_or now i was ≡ get_or files i was =
    ap (λ l. get_or l 0 was) (sym (drop_more now i was lt) ∙ ahead ∙ drop_more files i was (omega (arith, lt, long))) in
    slice_get_read files (length files) i was refl (omega (arith, lt, long)) (read ∙ heads)

-- nothing is left
pub all_picked : (i : ℕ) (files now : List Stored) (picks rest : List ℕ) → length now ≤ i → length now ≡ length files
    → ((tail : List Stored) → ArePicked (drop i files) rest tail → ArePicked files picks (take i now ++ tail)) → ArePicked files picks now
all_picked i files now picks rest ge long further =
    let none : drop i files ≡ [] = drop_all i files (omega (arith, ge, long)) in
    let all : ArePicked files picks (take i now ++ []) = further [] (subst (λ l. ArePicked l rest []) (sym none) tt) in
    subst (λ l. ArePicked files picks l) (append-nil (take i now) ∙ take_all i now ge) all
