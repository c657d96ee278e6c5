-- What a crash may leave of a file, after a write, a cut or a sync: exactly what the step makes of what it might have left before.
use Rattle.std.proofs.Common.{◌≡◌, ◌+◌, ◌<◌, ◌≤◌, ◌⊎◌, ℕ, zero, suc, Bool, true, false, List, [], ◌∷◌, length, take, get_or, max, min, inl, inr, refl, sym, ap, ◌∙◌, subst, arith, length-take}
use Rattle.std.proofs.lemmas.Bool.{cases_lt, false≢true}
use Rattle.std.proofs.lemmas.List.{get_or-take}
use Rattle.shelf.specs.Disk.{Written, Torn, Cut, Trimmed, Follows}
use Rattle.shelf.specs.Stored.{Left, Stored, IsLeft, IsTouched, IsOpened, IsSettled, IsSound}

-- ---- lists by place

abbrev table : (ℕ → ℕ) → ℕ → List ℕ
table f zero = []
table f (suc n) = f 0 ∷ table (λ k. f (suc k)) n

length_table : (f : ℕ → ℕ) (n : ℕ) → length (table f n) ≡ n
length_table f zero = refl
length_table f (suc n) = ap (λ k. suc k) (length_table (λ k. f (suc k)) n)

at_table : (f : ℕ → ℕ) (n k : ℕ) → k < n → get_or (table f n) k 0 ≡ f k
at_table f zero k h = absurd (omega (arith, h))
at_table f (suc n) zero h = refl
at_table f (suc n) (suc k) h = at_table (λ j. f (suc j)) n k (omega (arith, h))

-- one of two numbers
abbrev split : {A B : Type 0} → A ⊎ B → ℕ → ℕ → ℕ
split (inl a) x y = x
split (inr b) x y = y

split_left : {A B : Type 0} → (s : A ⊎ B) (x y : ℕ) → (B → ⊥) → split s x y ≡ x
split_left (inl a) x y never = refl
split_left (inr b) x y never = absurd (never b)

split_right : {A B : Type 0} → (s : A ⊎ B) (x y : ℕ) → (A → ⊥) → split s x y ≡ y
split_right (inl a) x y never = absurd (never a)
split_right (inr b) x y never = refl

-- bytes up to a place, and others from there on
abbrev joined : (ℕ → ℕ) → (ℕ → ℕ) → ℕ → ℕ → ℕ
joined front rest size k = split (cases_lt k size) (front k) (rest k)

in_front : (front rest : ℕ → ℕ) (size k : ℕ) → k < size → joined front rest size k ≡ front k
in_front front rest size k h = split_left (cases_lt k size) (front k) (rest k) (λ ge. omega (arith, h, ge))

in_rest : (front rest : ℕ → ℕ) (size k : ℕ) → size ≤ k → joined front rest size k ≡ rest k
in_rest front rest size k h = split_right (cases_lt k size) (front k) (rest k) (λ lt. omega (arith, h, lt))

not_true : (b : Bool) → b ≡ false → b ≡ true → ⊥
not_true b is_false is_true = false≢true (sym is_false ∙ is_true)

-- ---- a write

-- the image before it: what the range held, and elsewhere what is there
abbrev range_before : ℕ → ℕ → List ℕ → List ℕ → ℕ → ℕ
range_before at count synced c = joined (λ k. get_or c k 0) (joined (λ k. get_or synced k 0) (λ k. get_or c k 0) (at + count)) at

range_outside : (at count : ℕ) (synced c : List ℕ) (k : ℕ) → (k < at) ⊎ (at + count ≤ k) → range_before at count synced c k ≡ get_or c k 0
range_outside at count synced c k (inl lt) = in_front (λ j. get_or c j 0) (joined (λ j. get_or synced j 0) (λ j. get_or c j 0) (at + count)) at k lt
range_outside at count synced c k (inr ge) =
    in_rest (λ j. get_or c j 0) (joined (λ j. get_or synced j 0) (λ j. get_or c j 0) (at + count)) at k (omega (arith, ge))
    ∙ in_rest (λ j. get_or synced j 0) (λ j. get_or c j 0) (at + count) k ge

range_inside : (at count : ℕ) (synced c : List ℕ) (k : ℕ) → at ≤ k → k < at + count → range_before at count synced c k ≡ get_or synced k 0
range_inside at count synced c k ge lt =
    in_rest (λ j. get_or c j 0) (joined (λ j. get_or synced j 0) (λ j. get_or c j 0) (at + count)) at k ge
    ∙ in_front (λ j. get_or synced j 0) (λ j. get_or c j 0) (at + count) k lt

range_kept : (at count : ℕ) (old new : Left) (c : List ℕ) → IsTouched at count old new → IsLeft new c → (k : ℕ) → k < length c
    → get_or old.touched k true ≡ false → range_before at count old.synced c k ≡ get_or old.synced k 0
range_kept at count old new c t is k lt un = elim (cases_lt k at) [
  | inl below ↦ range_outside at count old.synced c k (inl below) ∙ is.kept k lt (t.below k below ∙ un) ∙ ap (λ l. get_or l k 0) t.synced
  | inr from ↦ elim (cases_lt k (at + count)) [
    | inl within ↦ range_inside at count old.synced c k from within
    | inr above ↦ range_outside at count old.synced c k (inr above) ∙ is.kept k lt (t.above k above ∙ un) ∙ ap (λ l. get_or l k 0) t.synced
  ]
]

pub touched_back : (at count : ℕ) (was is : Stored) → IsSound was → at ≤ length was.text → IsTouched at count was.left is.left
    → Follows (Torn at count) (IsLeft was.left) (IsLeft is.left)
touched_back at count was is sound begins t = λ c left.
    let f = range_before at count was.left.synced c in
    let n = min (length c) (length was.left.touched) in
    let long : length (table f n) ≡ n = length_table f n in (
      table f n,
      record {
        no_shorter = omega (arith, long, left.no_shorter, t.shortest, sound.reads.no_shorter, sound.reads.no_longer);
        no_longer = omega (arith, long);
        kept = λ k lt un. at_table f n k (omega (arith, lt, long)) ∙ range_kept at count was.left is.left c t left k (omega (arith, lt, long)) un;
      },
      record {
        no_shorter = omega (arith, long);
        no_longer = omega (arith, long, left.no_longer, t.long);
        below = λ k lt in_old. sym (at_table f n k (omega (arith, in_old, long)) ∙ range_outside at count was.left.synced c k (inl lt));
        above = λ k ge in_old. sym (at_table f n k (omega (arith, in_old, long)) ∙ range_outside at count was.left.synced c k (inr ge));
      },
    )

-- a place that was untouched and isn't in the range
torn_kept : (at count : ℕ) (was is : Stored) (d c : List ℕ) → IsSound was → at ≤ length was.text → IsTouched at count was.left is.left
    → IsLeft was.left d → Torn at count d c → (k : ℕ) → k < length c → get_or is.left.touched k true ≡ false → get_or c k 0 ≡ get_or is.left.synced k 0
torn_kept at count was is d c sound begins t left torn k lt un = elim (cases_lt k at) [
  | inl below ↦ elim (cases_lt k (length d)) [
    | inl old ↦ torn.below k below old ∙ left.kept k old (sym (t.below k below) ∙ un) ∙ ap (λ l. get_or l k 0) (sym t.synced)
    | inr past ↦ absurd (not_true (get_or is.left.touched k true) un (t.below k below ∙ sound.grown k (omega (arith, past, left.no_shorter)) (omega (arith, below, begins))))
  ]
  | inr from ↦ elim (cases_lt k (at + count)) [
    | inl within ↦ absurd (not_true (get_or is.left.touched k true) un (t.within k from within))
    | inr above ↦ let old : k < length d = omega (arith, lt, torn.no_longer, above) in
        torn.above k above old ∙ left.kept k old (sym (t.above k above) ∙ un) ∙ ap (λ l. get_or l k 0) (sym t.synced)
  ]
]

pub touched_forth : (at count : ℕ) (was is : Stored) → IsSound was → at ≤ length was.text → IsTouched at count was.left is.left
    → (d c : List ℕ) → IsLeft was.left d → Torn at count d c → IsLeft is.left c
touched_forth at count was is sound begins t d c left torn = record {
  no_shorter = omega (arith, t.shortest, left.no_shorter, torn.no_shorter);
  no_longer = omega (arith, t.long, left.no_longer, torn.no_longer);
  kept = torn_kept at count was is d c sound begins t left torn;
}

-- ---- a cut that is done

pub cut_back : (size : ℕ) (was is : Stored) → IsSound was → is.left ≡ record was.left { shortest = min was.left.shortest size }
    → Follows (Cut size) (IsLeft was.left) (IsLeft is.left)
cut_back size was is sound e = λ c left.
    let synced : is.left.synced ≡ was.left.synced = ap (λ l. l.synced) e in
    let touched : is.left.touched ≡ was.left.touched = ap (λ l. l.touched) e in
    let shortest : is.left.shortest ≡ min was.left.shortest size = ap (λ l. l.shortest) e in
    let f = joined (λ k. get_or c k 0) (λ k. get_or was.left.synced k 0) (length c) in
    let n = max (length c) was.left.shortest in
    let long : length (table f n) ≡ n = length_table f n in (
      table f n,
      record {
        no_shorter = omega (arith, long);
        no_longer = omega (arith, long, left.no_longer, ap length touched, sound.reads.no_shorter, sound.reads.no_longer);
        kept = λ k lt un. at_table f n k (omega (arith, lt, long)) ∙ (elim (cases_lt k (length c)) [
          | inl old ↦ in_front (λ j. get_or c j 0) (λ j. get_or was.left.synced j 0) (length c) k old ∙ left.kept k old (ap (λ l. get_or l k true) touched ∙ un) ∙ ap (λ l. get_or l k 0) synced
          | inr past ↦ in_rest (λ j. get_or c j 0) (λ j. get_or was.left.synced j 0) (length c) k past
        ]);
      },
      record {
        no_shorter = omega (arith, long, left.no_shorter, shortest);
        no_longer = omega (arith, long);
        kept = λ k lt. sym (at_table f n k (omega (arith, lt)) ∙ in_front (λ j. get_or c j 0) (λ j. get_or was.left.synced j 0) (length c) k lt);
      },
    )

pub cut_forth : (size : ℕ) (was is : Stored) → is.left ≡ record was.left { shortest = min was.left.shortest size }
    → (d c : List ℕ) → IsLeft was.left d → Cut size d c → IsLeft is.left c
cut_forth size was is e d c left cut =
    let synced : is.left.synced ≡ was.left.synced = ap (λ l. l.synced) e in
    let touched : is.left.touched ≡ was.left.touched = ap (λ l. l.touched) e in
    let shortest : is.left.shortest ≡ min was.left.shortest size = ap (λ l. l.shortest) e in
    record {
      no_shorter = omega (arith, shortest, left.no_shorter, cut.no_shorter);
      no_longer = omega (arith, ap length touched, left.no_longer, cut.no_longer);
      kept = λ k lt un. cut.kept k lt ∙ left.kept k (omega (arith, lt, cut.no_longer)) (sym (ap (λ l. get_or l k true) touched) ∙ un) ∙ sym (ap (λ l. get_or l k 0) synced);
    }

-- what is done is begun
pub trimmed_of_cut : (size : ℕ) (old new : List ℕ) → Cut size old new → Trimmed size old new
trimmed_of_cut size old new cut = record { no_shorter = cut.no_shorter; no_longer = cut.no_longer; below = λ k a b c. cut.kept k c }

-- ---- a cut that is begun

abbrev front_before : ℕ → List ℕ → List ℕ → ℕ → ℕ
front_before size synced c = joined (λ k. get_or c k 0) (λ k. get_or synced k 0) (min size (length c))

pub opened_back : (size : ℕ) (was is : Stored) → IsSound was → IsOpened size was.left is.left
    → Follows (Trimmed size) (IsLeft was.left) (IsLeft is.left)
opened_back size was is sound o = λ c left.
    let f = front_before size was.left.synced c in
    let n = max (length c) was.left.shortest in
    let long : length (table f n) ≡ n = length_table f n in (
      table f n,
      record {
        no_shorter = omega (arith, long);
        no_longer = omega (arith, long, left.no_longer, o.long, sound.reads.no_shorter, sound.reads.no_longer);
        kept = λ k lt un. at_table f n k (omega (arith, lt, long)) ∙ (elim (cases_lt k (min size (length c))) [
          | inl old ↦ in_front (λ j. get_or c j 0) (λ j. get_or was.left.synced j 0) (min size (length c)) k old
              ∙ left.kept k (omega (arith, old)) (o.below k (omega (arith, old)) ∙ un) ∙ ap (λ l. get_or l k 0) o.synced
          | inr past ↦ in_rest (λ j. get_or c j 0) (λ j. get_or was.left.synced j 0) (min size (length c)) k past
        ]);
      },
      record {
        no_shorter = omega (arith, long, left.no_shorter, o.shortest);
        no_longer = omega (arith, long);
        below = λ k lt in_old in_new. sym (at_table f n k (omega (arith, in_old, long))
            ∙ in_front (λ j. get_or c j 0) (λ j. get_or was.left.synced j 0) (min size (length c)) k (omega (arith, lt, in_new)));
      },
    )

pub opened_forth : (size : ℕ) (was is : Stored) → IsOpened size was.left is.left
    → (d c : List ℕ) → IsLeft was.left d → Trimmed size d c → IsLeft is.left c
opened_forth size was is o d c left trimmed = record {
  no_shorter = omega (arith, o.shortest, left.no_shorter, trimmed.no_shorter);
  no_longer = omega (arith, o.long, left.no_longer, trimmed.no_longer);
  kept = λ k lt un. elim (cases_lt k size) [
    | inl below ↦ let old : k < length d = omega (arith, lt, trimmed.no_longer) in
        trimmed.below k below old lt ∙ left.kept k old (sym (o.below k below) ∙ un) ∙ sym (ap (λ l. get_or l k 0) o.synced)
    | inr above ↦ absurd (not_true (get_or is.left.touched k true) un (o.above k above))
  ];
}

-- ---- a sync

-- lists that agree at each place
pub same_list : (xs ys : List ℕ) → length xs ≡ length ys → ((k : ℕ) → k < length xs → get_or xs k 0 ≡ get_or ys k 0) → xs ≡ ys
same_list [] [] long same = refl
same_list [] (y ∷ ys) long same = absurd (omega (arith, long))
same_list (x ∷ xs) [] long same = absurd (omega (arith, long))
same_list (x ∷ xs) (y ∷ ys) long same =
    let head : x ≡ y = same 0 (omega arith) in
    let rest : xs ≡ ys = same_list xs ys (omega (arith, long)) (λ k lt. same (suc k) (omega (arith, lt))) in
    rw (head, rest) refl

pub settled_alone : (text : List ℕ) (left : Left) → IsSettled text left → (c : List ℕ) → IsLeft left c → c ≡ text
settled_alone text left s c is =
    let long : length c ≡ length text = omega (arith, is.no_shorter, is.no_longer, s.shortest, s.long) in
    same_list c text long (λ k lt. is.kept k lt (s.kept k (omega (arith, lt, long))) ∙ ap (λ l. get_or l k 0) s.synced)

pub settled_left : (text : List ℕ) (left : Left) → IsSettled text left → IsLeft left text
settled_left text left s = record {
  no_shorter = omega (arith, s.shortest);
  no_longer = omega (arith, s.long);
  kept = λ k lt un. ap (λ l. get_or l k 0) (sym s.synced);
}

-- ---- files stay sound

pub sound_settled : (file : Stored) → IsSettled file.text file.left → IsSound file
sound_settled file s = record {
  reads = settled_left file.text file.left s;
  grown = λ k ge lt. absurd (omega (arith, ge, lt, s.shortest));
}

pub sound_written : (at : ℕ) (bytes : List ℕ) (was is : Stored) → IsSound was → at ≤ length was.text → Written at bytes was.text is.text
    → IsTouched at (length bytes) was.left is.left → IsSound is
sound_written at bytes was is sound begins w t = record {
  reads = record {
    no_shorter = omega (arith, t.shortest, sound.reads.no_shorter, w.long);
    no_longer = omega (arith, t.long, sound.reads.no_longer, w.long);
    kept = λ k lt un. elim (cases_lt k at) [
      | inl below ↦ w.below k below ∙ sound.reads.kept k (omega (arith, below, begins)) (sym (t.below k below) ∙ un) ∙ sym (ap (λ l. get_or l k 0) t.synced)
      | inr from ↦ elim (cases_lt k (at + length bytes)) [
        | inl within ↦ absurd (not_true (get_or is.left.touched k true) un (t.within k from within))
        | inr above ↦ let old : k < length was.text = omega (arith, lt, w.long, above) in
            w.above k above old ∙ sound.reads.kept k old (sym (t.above k above) ∙ un) ∙ sym (ap (λ l. get_or l k 0) t.synced)
      ]
    ];
  };
  grown = λ k ge lt. elim (cases_lt k at) [
    | inl below ↦ t.below k below ∙ sound.grown k (omega (arith, ge, t.shortest)) (omega (arith, below, begins))
    | inr from ↦ elim (cases_lt k (at + length bytes)) [
      | inl within ↦ t.within k from within
      | inr above ↦ t.above k above ∙ sound.grown k (omega (arith, ge, t.shortest)) (omega (arith, lt, w.long, above))
    ]
  ];
}

pub sound_torn : (at count : ℕ) (was is : Stored) → IsSound was → at ≤ length was.text → is.text ≡ was.text
    → IsTouched at count was.left is.left → IsSound is
sound_torn at count was is sound begins same t = record {
  reads = subst (λ c. IsLeft is.left c) (sym same) (touched_forth at count was is sound begins t was.text was.text sound.reads
      (record { no_shorter = omega arith; no_longer = omega arith; below = λ k a b. refl; above = λ k a b. refl }));
  grown = λ k ge lt.
      let inside : k < length was.text = subst (λ c. k < length c) same lt in
      let old = sound.grown k (omega (arith, ge, t.shortest)) inside in
      elim (cases_lt k at) [
        | inl below ↦ t.below k below ∙ old
        | inr from ↦ elim (cases_lt k (at + count)) [
          | inl within ↦ t.within k from within
          | inr above ↦ t.above k above ∙ old
        ]
      ];
}

pub sound_cut : (size : ℕ) (was is : Stored) → IsSound was → size ≤ length was.text → is.text ≡ take size was.text
    → is.left ≡ record was.left { shortest = min was.left.shortest size } → IsSound is
sound_cut size was is sound fits e l =
    let long : length is.text ≡ min size (length was.text) = ap length e ∙ length-take size was.text in
    let touched : is.left.touched ≡ was.left.touched = ap (λ l. l.touched) l in
    let shortest : is.left.shortest ≡ min was.left.shortest size = ap (λ l. l.shortest) l in
    let same : (k : ℕ) → k < length is.text → get_or is.text k 0 ≡ get_or was.text k 0 =
    λ k lt. ap (λ t. get_or t k 0) e ∙ get_or-take size was.text k 0 (omega (arith, lt, long)) in
    record {
      reads = cut_forth size was is l was.text is.text sound.reads (record { no_shorter = omega (arith, long); no_longer = omega (arith, long); kept = same });
      grown = λ k ge lt. ap (λ t. get_or t k true) touched ∙ sound.grown k (omega (arith, ge, lt, shortest, long)) (omega (arith, lt, long));
    }

pub sound_frayed : (size : ℕ) (was is : Stored) → IsSound was → size ≤ length was.text → is.text ≡ was.text
    → IsOpened size was.left is.left → IsSound is
sound_frayed size was is sound fits same o = record {
  reads = subst (λ c. IsLeft is.left c) (sym same) (opened_forth size was is o was.text was.text sound.reads
      (record { no_shorter = omega arith; no_longer = omega arith; below = λ k a b c. refl }));
  grown = λ k ge lt. elim (cases_lt k size) [
    | inl below ↦ o.below k below ∙ sound.grown k (omega (arith, ge, below, o.shortest)) (subst (λ c. k < length c) same lt)
    | inr above ↦ o.above k above
  ];
}
