-- Each choice of one image under each name has its picks.
use Rattle.std.proofs.Common.{◌≡◌, ◌+◌, ◌*◌, ◌^◌, ◌<◌, ℕ, zero, suc, Bool, true, false, List, [], ◌∷◌, ◌++◌, length, drop, get_or, Some, inl, inr, refl, sym, ap, ◌∙◌, subst, arith}
use Rattle.std.specs.List.{slice_get}
use Rattle.std.proofs.lemmas.Bool.{cases_lt}
use Rattle.std.proofs.lemmas.Option.{same_Some, none-some}
use Rattle.std.proofs.Math.Seq.{drop-append_seam}
use Rattle.shelf.specs.Picks.{EndsBy, byte_by, IsPicked, ArePicked, AreBytes, HavePicks}
use Rattle.shelf.specs.Stored.{Stored, IsLeft, OneEach, images_in}
use Rattle.shelf.proofs.ImageLemmas.{same_list}
use Rattle.shelf.proofs.PastLemmas.{find_name}
use Rattle.shelf.proofs.PickLemmas.{pair_before}

-- the picks of these bytes, for so many places: the byte of the second pick, and then the end
abbrev own : ℕ → List ℕ → List ℕ
own zero c = []
own (suc n) [] = 3 ∷ 0 ∷ own n []
own (suc n) (b ∷ c) = 2 ∷ b ∷ own n c

length_own : (n : ℕ) (c : List ℕ) → length (own n c) ≡ 2 * n
length_own zero c = refl
length_own (suc n) [] = let e = length_own n [] in omega (arith, e)
length_own (suc n) (b ∷ c) = let e = length_own n c in omega (arith, e)

twice : (k : ℕ) → 2 * suc k ≡ suc (suc (2 * k))
twice k = omega arith

twice_more : (k : ℕ) → 2 * suc k + 1 ≡ suc (suc (2 * k + 1))
twice_more k = omega arith

firsts : (n : ℕ) (c rest : List ℕ) (k : ℕ) → k < length c → k < n → get_or (own n c ++ rest) (2 * k) 0 ≡ 2
firsts zero c rest k in_c in_n = absurd (omega (arith, in_n))
firsts (suc n) [] rest k in_c in_n = absurd (omega (arith, in_c))
firsts (suc n) (b ∷ c) rest zero in_c in_n = refl
firsts (suc n) (b ∷ c) rest (suc k) in_c in_n = ap (λ j. get_or (2 ∷ b ∷ (own n c ++ rest)) j 0) (twice k) ∙ firsts n c rest k (omega (arith, in_c)) (omega (arith, in_n))

seconds : (n : ℕ) (c rest : List ℕ) (k : ℕ) → k < length c → k < n → get_or (own n c ++ rest) (2 * k + 1) 0 ≡ get_or c k 0
seconds zero c rest k in_c in_n = absurd (omega (arith, in_n))
seconds (suc n) [] rest k in_c in_n = absurd (omega (arith, in_c))
seconds (suc n) (b ∷ c) rest zero in_c in_n = refl
seconds (suc n) (b ∷ c) rest (suc k) in_c in_n = ap (λ j. get_or (2 ∷ b ∷ (own n c ++ rest)) j 0) (twice_more k) ∙ seconds n c rest k (omega (arith, in_c)) (omega (arith, in_n))

last : (n : ℕ) (c rest : List ℕ) → length c < n → get_or (own n c ++ rest) (2 * length c) 0 ≡ 3
last zero c rest lt = absurd (omega (arith, lt))
last (suc n) [] rest lt = refl
last (suc n) (b ∷ c) rest lt = ap (λ j. get_or (2 ∷ b ∷ (own n c ++ rest)) j 0) (twice (length c)) ∙ last n c rest (omega (arith, lt))

-- ---- bytes

one_byte : (b : ℕ) (l : List ℕ) → b < 2 ^ 8 → AreBytes l → AreBytes (b ∷ l)
one_byte b l small bytes zero lt = small
one_byte b l small bytes (suc k) lt = bytes k (omega (arith, lt))

further_bytes : (b : ℕ) (l : List ℕ) → AreBytes (b ∷ l) → AreBytes l
further_bytes b l bytes = λ k lt. bytes (suc k) (omega (arith, lt))

own_bytes : (n : ℕ) (c rest : List ℕ) → AreBytes c → AreBytes rest → AreBytes (own n c ++ rest)
own_bytes zero c rest in_c in_rest = in_rest
own_bytes (suc n) [] rest in_c in_rest = one_byte 3 (0 ∷ (own n [] ++ rest)) (omega arith) (one_byte 0 (own n [] ++ rest) (omega arith) (own_bytes n [] rest in_c in_rest))
own_bytes (suc n) (b ∷ c) rest in_c in_rest =
    one_byte 2 (b ∷ (own n c ++ rest)) (omega arith) (one_byte b (own n c ++ rest) (in_c 0 (omega arith)) (own_bytes n c rest (further_bytes b c in_c) in_rest))

-- ---- one file

not_two : (shortest synced now k : ℕ) → EndsBy shortest synced now 2 k → ⊥
not_two shortest synced now k e = elim e.does [
  | inl a ↦ omega (arith, a.0)
  | inr a ↦ elim a [ inl b ↦ omega (arith, b.0) | inr b ↦ omega (arith, b) ]
]

byte_chosen : (touched : Bool) (synced now byte : ℕ) → (touched ≡ false → byte ≡ synced) → byte ≡ byte_by touched synced now 2 byte
byte_chosen true synced now byte kept = refl
byte_chosen false synced now byte kept = kept refl

own_picked : (file : Stored) (c rest : List ℕ) → IsLeft file.left c → IsPicked file (own (length file.left.touched) c ++ rest) c
own_picked file c rest left =
    let n = length file.left.touched in
    let picks = own n c ++ rest in
    record {
      no_longer = left.no_longer;
      goes_on = λ k lt e. not_two file.left.shortest (length file.left.synced) (length file.text) k
          (subst (λ p. EndsBy file.left.shortest (length file.left.synced) (length file.text) p k) (firsts n c rest k lt (omega (arith, lt, left.no_longer))) e);
      ends = λ lt. record { may = left.no_shorter; does = inr (inr (last n c rest lt)) };
      bytes = λ k lt.
          let inside : k < n = omega (arith, lt, left.no_longer) in
          byte_chosen (get_or file.left.touched k true) (get_or file.left.synced k 0) (get_or file.text k 0) (get_or c k 0) (left.kept k lt)
          ∙ ap (λ v. byte_by (get_or file.left.touched k true) (get_or file.left.synced k 0) (get_or file.text k 0) 2 v) (sym (seconds n c rest k lt inside))
          ∙ ap (λ p. byte_by (get_or file.left.touched k true) (get_or file.left.synced k 0) (get_or file.text k 0) p (get_or picks (2 * k + 1) 0)) (sym (firsts n c rest k lt inside));
    }

-- picks choose one list
same_length : (file : Stored) (picks c d : List ℕ) → IsPicked file picks c → IsPicked file picks d → length c < length d → ⊥
same_length file picks c d pc pd lt = pd.goes_on (length c) lt (pc.ends (omega (arith, lt, pd.no_longer)))

one_choice : (file : Stored) (picks c d : List ℕ) → IsPicked file picks c → IsPicked file picks d → c ≡ d
one_choice file picks c d pc pd = elim (cases_lt (length c) (length d)) [
  | inl lt ↦ absurd (same_length file picks c d pc pd lt)
  | inr ge ↦ elim (cases_lt (length d) (length c)) [
    | inl lt ↦ absurd (same_length file picks d c pd pc lt)
    | inr le ↦ let long : length c ≡ length d = omega (arith, ge, le) in
        same_list c d long (λ k lt. pc.bytes k lt ∙ sym (pd.bytes k (omega (arith, lt, long))))
  ]
]

-- ---- all files

picked_as : (file : Stored) (files : List Stored) (image : List ℕ → List ℕ) (rest : List ℕ) → IsLeft file.left (image file.name)
    → ((now : List Stored) → ArePicked files rest now → (k : ℕ) (g : Stored) → slice_get now k ≡ Some g → g.text ≡ image g.name)
    → (now : List Stored) → ArePicked (file ∷ files) (own (length file.left.touched) (image file.name) ++ rest) now → (k : ℕ) (g : Stored) → slice_get now k ≡ Some g → g.text ≡ image g.name
picked_as file files image rest left others [] are k g e = absurd are
picked_as file files image rest left others (g' ∷ now) are zero g e =
    let is_g : g' ≡ g = same_Some g' g e in
    let text : g'.text ≡ image file.name =
    one_choice file (own (length file.left.touched) (image file.name) ++ rest) g'.text (image file.name) are.0.picked (own_picked file (image file.name) rest left) in
    sym (ap (λ x. x.text) is_g) ∙ text ∙ ap image (sym are.0.named) ∙ ap image (ap (λ x. x.name) is_g)
picked_as file files image rest left others (g' ∷ now) are (suc k) g e =
    let n = length file.left.touched in
    let gone : drop (2 * n) (own n (image file.name) ++ rest) ≡ rest =
    ap (λ m. drop m (own n (image file.name) ++ rest)) (sym (length_own n (image file.name))) ∙ drop-append_seam (own n (image file.name)) rest in
    others now (subst (λ p. ArePicked files p now) gone are.1) k g e

nothing_picked : (image : List ℕ → List ℕ) (now : List Stored) → ArePicked [] [] now → (k : ℕ) (g : Stored) → slice_get now k ≡ Some g → g.text ≡ image g.name
nothing_picked image [] are k g e = absurd (none-some g e)
nothing_picked image (g' ∷ now) are k g e = absurd are

find_picks : (files : List Stored) (image : List ℕ → List ℕ) → ((n : List ℕ) → AreBytes (image n)) → ((k : ℕ) (f : Stored) → slice_get files k ≡ Some f → IsLeft f.left (image f.name))
    → (picks : List ℕ) × AreBytes picks × ((now : List Stored) → ArePicked files picks now → (k : ℕ) (g : Stored) → slice_get now k ≡ Some g → g.text ≡ image g.name)
find_picks [] image bytes left = ([], λ k lt. absurd (omega (arith, lt)), nothing_picked image)
find_picks (f ∷ files) image bytes left =
    let rest = find_picks files image bytes (λ k g e. left (suc k) g e) in (
      own (length f.left.touched) (image f.name) ++ rest.0,
      own_bytes (length f.left.touched) (image f.name) rest.0 (bytes f.name) rest.1,
      picked_as f files image rest.0 (left 0 f refl) rest.2,
    )

-- a file's image is the one under its name
own_image : (files : List Stored) → OneEach files → (image : List ℕ → List ℕ) → ((n : List ℕ) → images_in files n (image n)) → (k : ℕ) (f : Stored) → slice_get files k ≡ Some f → IsLeft f.left (image f.name)
own_image files each image images k f e = elim (images f.name) [
  | inl r ↦ let place : r.place ≡ k = each r.place k r.file f r.found e r.named in
      let is_f : r.file ≡ f = same_Some r.file f (sym r.found ∙ ap (λ j. slice_get files j) place ∙ e) in
      subst (λ g. IsLeft g.left (image f.name)) is_f r.shows
  | inr r ↦ absurd (r.0 k f e refl)
]

no_file : (files : List Stored) (picks : List ℕ) (now : List Stored) → ArePicked files picks now → (n c : List ℕ) → images_in files n c → ((k : ℕ) (g : Stored) → slice_get now k ≡ Some g → g.name ≡ n → ⊥) → c ≡ []
no_file files picks now are n c (inl r) none =
    let p = pair_before files picks now are r.place r.file r.found in
    absurd (none r.place p.is p.after (p.left.named ∙ ap (λ x. x.name) (same_Some p.was r.file (sym p.before ∙ r.found)) ∙ r.named))
no_file files picks now are n c (inr r) none = r.1

pub have_picks : HavePicks
have_picks files each image images bytes =
    let found = find_picks files image bytes (own_image files each image images) in (
      found.0,
      found.1,
      λ now are n. elim (find_name now n) [
        | inl at ↦ inl (record { place = at.0; file = at.1; found = at.2; named = at.3; shows = found.2 now are at.0 at.1 at.2 ∙ ap image at.3 })
        | inr none ↦ inr (none, no_file files found.0 now are n (image n) (images n) none)
      ],
    )
