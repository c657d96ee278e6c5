-- What a shelf over a list of files shows, when one of the files changes, comes new, or all are given up.
use Rattle.std.proofs.Common.{◌≤◌, take, drop, IsSome, append-nil, ◌≡◌, ◌≢◌, ◌<◌, ◌+◌, ◌⊎◌, ℕ, zero, suc, Bool, true, false, List, [], ◌∷◌, ◌++◌, length, map, set, get_or, Option, Some, None, IfSome, if◌then◌else◌, refl, sym, ap, ◌∙◌, subst, inl, inr, arith}
use Rattle.std.specs.List.{slice_get}
use Rattle.std.specs.Option.{option_and_then, option_map, IsSomeAnd}
use Rattle.std.proofs.lemmas.Option.{same_Some, none-some, get_or_from_slice_get, slice_get-map, slice_get_past, slice_get_read, slice_get_within}
use Rattle.std.proofs.lemmas.Bool.{cases_eq, cases_lt, false≢true}
use Rattle.std.proofs.lemmas.List.{take_all, drop_all}
use Rattle.shelf.specs.Disk.{Follows, Leads, SameContents, SameOthers, SameSlots, Tells, Holds, IsFree, Held, name_at, most_at}
use Rattle.shelf.specs.Stored.{Stored, slot_of, slots_in, IsAbsent, texts_in, under, OneEach, IsSound, AreSound, IsChange, IsLeft}

pub slice_get-set_same : {A : Type 0} → (xs : List A) (k : ℕ) (y : A) → k < length xs → slice_get (set xs k y) k ≡ Some y
slice_get-set_same [] k y h = absurd (omega arith)
slice_get-set_same (x ∷ xs) zero y h = refl
slice_get-set_same (x ∷ xs) (suc k) y h = slice_get-set_same xs k y (omega arith)

pub slice_get-set_other : {A : Type 0} → (xs : List A) (k j : ℕ) (y : A) → j ≢ k → slice_get (set xs k y) j ≡ slice_get xs j
slice_get-set_other [] k j y ne = refl
slice_get-set_other (x ∷ xs) zero zero y ne = absurd (ne refl)
slice_get-set_other (x ∷ xs) zero (suc j) y ne = refl
slice_get-set_other (x ∷ xs) (suc k) zero y ne = refl
slice_get-set_other (x ∷ xs) (suc k) (suc j) y ne = slice_get-set_other xs k j y (λ e. ne (ap (λ n. suc n) e))

-- the slot at a place where a file is
pub slot_at : (files : List Stored) (k : ℕ) (file : Stored) → slice_get files k ≡ Some file → slots_in files k ≡ slot_of file
slot_at files k file e = ap (λ o. option_and_then slot_of o) e

slots_from : (old new : List Stored) (k : ℕ) → slice_get new k ≡ slice_get old k → slots_in new k ≡ slots_in old k
slots_from old new k e = ap (λ file. option_and_then slot_of file) e

free_by : (b : Bool) (own : List ℕ) (most : ℕ) (name : List ℕ) → own ≡ name
    → IfSome (if b then Some (let h : Held = record { name = own; most = most } in h) else None) (λ h. h.name ≢ name)
    → (if b then Some (let h : Held = record { name = own; most = most } in h) else None) ≡ None
free_by true own most name same apart = absurd (apart same)
free_by false own most name same apart = refl

free_file : (was : Stored) (name : List ℕ) → was.name ≡ name → IfSome (slot_of was) (λ h. h.name ≢ name) → slot_of was ≡ None
free_file was name same apart = free_by was.is_held was.name was.most name same apart

held_slot : (is : Stored) (name : List ℕ) (most : ℕ) → is.name ≡ name → is.is_held ≡ true → is.most ≡ most → slot_of is ≡ Some (record { name = name; most = most })
held_slot is name most named held fits =
    ap (λ b. if b then Some (let h : Held = record { name = is.name; most = is.most } in h) else None) held
    ∙ ap (λ n. Some (let h : Held = record { name = n; most = is.most } in h)) named
    ∙ ap (λ m. Some (let h : Held = record { name = name; most = m } in h)) fits

-- one file changes, and keeps its name
pub record Changes (old new : List Stored) (place : ℕ) (was is : Stored) : Type 0 where
  pub found : slice_get old place ≡ Some was
  pub put : slice_get new place ≡ Some is
  pub others : (j : ℕ) → j ≢ place → slice_get new j ≡ slice_get old j
  pub named : is.name ≡ was.name

-- the change, read backwards
pub back : (old new : List Stored) (place : ℕ) (was is : Stored) → Changes old new place was is → Changes new old place is was
back old new place was is ch = record { found = ch.put; put = ch.found; others = λ j a. sym (ch.others j a); named = sym ch.named }

pub one_each : (old new : List Stored) (place : ℕ) (was is : Stored) → Changes old new place was is → OneEach old → OneEach new
one_each old new place was is ch each = λ i j f g fi gj same. elim (cases_eq i place) [
  | inl a ↦ elim (cases_eq j place) [
    | inl b ↦ a ∙ sym b
    | inr b ↦ let f_is : is ≡ f = same_Some is f (sym ch.put ∙ sym (ap (λ n. slice_get new n) a) ∙ fi) in
        let e : i ≡ j = each i j was g (ap (λ n. slice_get old n) a ∙ ch.found) (sym (ch.others j b) ∙ gj) (sym ch.named ∙ ap (λ x. x.name) f_is ∙ same) in e
  ]
  | inr a ↦ elim (cases_eq j place) [
    | inl b ↦ let g_is : is ≡ g = same_Some is g (sym ch.put ∙ sym (ap (λ n. slice_get new n) b) ∙ gj) in
        each i j f was (sym (ch.others i a) ∙ fi) (ap (λ n. slice_get old n) b ∙ ch.found) (same ∙ sym (ap (λ x. x.name) g_is) ∙ ch.named)
    | inr b ↦ each i j f g (sym (ch.others i a) ∙ fi) (sym (ch.others j b) ∙ gj) same
  ]
]

-- what a slot's file gives, by a step
pub follows : (P : Stored → List ℕ → Type 0) (step : List ℕ → List ℕ → Type 0) (old new : List Stored) (place : ℕ) (was is : Stored) → Changes old new place was is → OneEach old
    → Follows step (P was) (P is) → Follows step (under P old was.name) (under P new was.name)
follows P step old new place was is ch each h = λ c given. elim given [
  | inl r ↦ elim (cases_eq r.place place) [
    | inl a ↦ let is_file : is ≡ r.file = same_Some is r.file (sym ch.put ∙ sym (ap (λ n. slice_get new n) a) ∙ r.found) in
        let before = h c (subst (λ f. P f c) (sym is_file) r.shows) in (
          before.0,
          inl (record { place = place; file = was; found = ch.found; named = refl; shows = before.1 }),
          before.2,
        )
    | inr a ↦ absurd (a (each r.place place r.file was (sym (ch.others r.place a) ∙ r.found) ch.found r.named))
  ]
  | inr r ↦ absurd (r.0 place is ch.put ch.named)
]

-- and all that the step gives is there
pub leads : (P : Stored → List ℕ → Type 0) (step : List ℕ → List ℕ → Type 0) (old new : List Stored) (place : ℕ) (was is : Stored) → Changes old new place was is → OneEach old
    → Leads step (P was) (P is) → Leads step (under P old was.name) (under P new was.name)
leads P step old new place was is ch each h = λ d c given stepped. elim given [
  | inl r ↦ let e : r.place ≡ place = each r.place place r.file was r.found ch.found r.named in
      let was_file : was ≡ r.file = same_Some was r.file (sym ch.found ∙ sym (ap (λ n. slice_get old n) e) ∙ r.found) in
      inl (record { place = place; file = is; found = ch.put; named = ch.named; shows = h d c (subst (λ f. P f d) (sym was_file) r.shows) stepped })
  | inr r ↦ absurd (r.0 place was ch.found refl)
]

pub absent_before : (old new : List Stored) (place : ℕ) (was is : Stored) → Changes old new place was is → (n : List ℕ) → IsAbsent new n → IsAbsent old n
absent_before old new place was is ch n absent = λ j f fj same. elim (cases_eq j place) [
  | inl a ↦ let f_is : was ≡ f = same_Some was f (sym ch.found ∙ sym (ap (λ n. slice_get old n) a) ∙ fj) in
      absent place is ch.put (ch.named ∙ ap (λ x. x.name) f_is ∙ same)
  | inr a ↦ absent j f (ch.others j a ∙ fj) same
]

pub others_stay : (P : Stored → List ℕ → Type 0) (old new : List Stored) (place : ℕ) (was is : Stored) → Changes old new place was is → SameOthers was.name (under P old) (under P new)
others_stay P old new place was is ch = λ n c apart given. elim given [
  | inl r ↦ elim (cases_eq r.place place) [
    | inl a ↦ let is_file : is ≡ r.file = same_Some is r.file (sym ch.put ∙ sym (ap (λ n. slice_get new n) a) ∙ r.found) in
        absurd (apart (sym r.named ∙ sym (ap (λ x. x.name) is_file) ∙ ch.named))
    | inr a ↦ inl (record { place = r.place; file = r.file; found = sym (ch.others r.place a) ∙ r.found; named = r.named; shows = r.shows })
  ]
  | inr r ↦ inr (absent_before old new place was is ch n r.0, r.1)
]

pub still_tells : (old new : List Stored) (place : ℕ) (was is : Stored) → Changes old new place was is → Tells (texts_in old) (texts_in new)
still_tells old new place was is ch = λ n c given. elim given [
  | inl r ↦ elim (cases_eq r.place place) [
    | inl a ↦ let was_file : was ≡ r.file = same_Some was r.file (sym ch.found ∙ sym (ap (λ n. slice_get old n) a) ∙ r.found) in
        (is.text, inl (record { place = place; file = is; found = ch.put; named = ch.named ∙ ap (λ x. x.name) was_file ∙ r.named; shows = refl }))
    | inr a ↦ (c, inl (record { place = r.place; file = r.file; found = ch.others r.place a ∙ r.found; named = r.named; shows = r.shows }))
  ]
  | inr r ↦ (c, inr (absent_before new old place is was (back old new place was is ch) n r.0, r.1))
]

-- a file that changes and gives no more than before
pub same_under : (P : Stored → List ℕ → Type 0) (old new : List Stored) (place : ℕ) (was is : Stored) → Changes old new place was is → ((c : List ℕ) → P is c → P was c)
    → SameContents (under P old) (under P new)
same_under P old new place was is ch same = λ n c given. elim given [
  | inl r ↦ elim (cases_eq r.place place) [
    | inl a ↦ let is_file : is ≡ r.file = same_Some is r.file (sym ch.put ∙ sym (ap (λ n. slice_get new n) a) ∙ r.found) in
        inl (record { place = place; file = was; found = ch.found; named = sym ch.named ∙ ap (λ x. x.name) is_file ∙ r.named; shows = same c (subst (λ f. P f c) (sym is_file) r.shows) })
    | inr a ↦ inl (record { place = r.place; file = r.file; found = sym (ch.others r.place a) ∙ r.found; named = r.named; shows = r.shows })
  ]
  | inr r ↦ inr (absent_before old new place was is ch n r.0, r.1)
]

at_place : (old new : List Stored) (place : ℕ) (was is : Stored) → Changes old new place was is → slot_of is ≡ slot_of was → (k : ℕ) → k ≡ place → slots_in new k ≡ slots_in old k
at_place old new place was is ch same k a =
    slot_at new k is (ap (λ n. slice_get new n) a ∙ ch.put) ∙ same ∙ sym (slot_at old k was (ap (λ n. slice_get old n) a ∙ ch.found))

pub same_slots : (old new : List Stored) (place : ℕ) (was is : Stored) → Changes old new place was is → slot_of is ≡ slot_of was → SameSlots (slots_in old) (slots_in new)
same_slots old new place was is ch same = λ k. elim (cases_eq k place) [
  | inl a ↦ at_place old new place was is ch same k a
  | inr a ↦ slots_from old new k (ch.others k a)
]

-- a file that no slot holds is held
pub now_held : (old new : List Stored) (place : ℕ) (was is : Stored) (name : List ℕ) (most : ℕ) → Changes old new place was is → IsFree (slots_in old) name
    → was.name ≡ name → is.is_held ≡ true → is.most ≡ most → Holds (slots_in old) (slots_in new) place name most
now_held old new place was is name most ch free same held fits = record {
  free = let e = slot_at old place was ch.found in
      e ∙ free_file was name same (subst (λ o. IfSome o (λ h. h.name ≢ name)) e (free place));
  filled = slot_at new place is ch.put ∙ held_slot is name most (ch.named ∙ same) held fits;
  others = λ k a. slots_from old new k (ch.others k a);
}

pub slice_get-push_new : {A : Type 0} → (xs : List A) (y : A) → slice_get (xs ++ y ∷ []) (length xs) ≡ Some y
slice_get-push_new [] y = refl
slice_get-push_new (x ∷ xs) y = slice_get-push_new xs y

pub slice_get-push_other : {A : Type 0} → (xs : List A) (y : A) (k : ℕ) → k ≢ length xs → slice_get (xs ++ y ∷ []) k ≡ slice_get xs k
slice_get-push_other [] y zero ne = absurd (ne refl)
slice_get-push_other [] y (suc k) ne = refl
slice_get-push_other (x ∷ xs) y zero ne = refl
slice_get-push_other (x ∷ xs) y (suc k) ne = slice_get-push_other xs y k (λ e. ne (ap (λ n. suc n) e))

pub slice_get-length : {A : Type 0} → (xs : List A) → slice_get xs (length xs) ≡ None
slice_get-length [] = refl
slice_get-length (x ∷ xs) = slice_get-length xs

-- two names are one, or not
pub cases_names : (a b : List ℕ) → (a ≡ b) ⊎ (a ≢ b)
cases_names [] [] = inl refl
cases_names [] (y ∷ ys) = inr (λ e. cc)
cases_names (x ∷ xs) [] = inr (λ e. cc)
cases_names (x ∷ xs) (y ∷ ys) = elim (cases_eq x y) [
  | inl a ↦ elim (cases_names xs ys) [ inl b ↦ inl cc | inr b ↦ inr (λ e. b cc) ]
  | inr a ↦ inr (λ e. a cc)
]

-- an empty file comes behind the others, under a new name
pub record Adds (old new : List Stored) (place : ℕ) (is : Stored) : Type 0 where
  pub gone : slice_get old place ≡ None
  pub put : slice_get new place ≡ Some is
  pub others : (j : ℕ) → j ≢ place → slice_get new j ≡ slice_get old j
  pub unnamed : IsAbsent old is.name
  pub empty : is.text ≡ []

pub added : (old : List Stored) (is : Stored) → IsAbsent old is.name → is.text ≡ [] → Adds old (old ++ is ∷ []) (length old) is
added old is absent e = record {
  gone = slice_get-length old;
  put = slice_get-push_new old is;
  others = λ j ne. slice_get-push_other old is j ne;
  unnamed = absent;
  empty = e;
}

pub one_each_added : (old new : List Stored) (place : ℕ) (is : Stored) → Adds old new place is → OneEach old → OneEach new
one_each_added old new place is ad each = λ i j f g fi gj same. elim (cases_eq i place) [
  | inl a ↦ elim (cases_eq j place) [
    | inl b ↦ a ∙ sym b
    | inr b ↦ let f_is : is ≡ f = same_Some is f (sym ad.put ∙ sym (ap (λ n. slice_get new n) a) ∙ fi) in
        absurd (ad.unnamed j g (sym (ad.others j b) ∙ gj) (sym same ∙ sym (ap (λ x. x.name) f_is)))
  ]
  | inr a ↦ elim (cases_eq j place) [
    | inl b ↦ let g_is : is ≡ g = same_Some is g (sym ad.put ∙ sym (ap (λ n. slice_get new n) b) ∙ gj) in
        absurd (ad.unnamed i f (sym (ad.others i a) ∙ fi) (same ∙ sym (ap (λ x. x.name) g_is)))
    | inr b ↦ each i j f g (sym (ad.others i a) ∙ fi) (sym (ad.others j b) ∙ gj) same
  ]
]

pub same_under_added : (P : Stored → List ℕ → Type 0) (old new : List Stored) (place : ℕ) (is : Stored) → Adds old new place is → ((c : List ℕ) → P is c → c ≡ []) → SameContents (under P old) (under P new)
same_under_added P old new place is ad empty = λ n c given. elim given [
  | inl r ↦ elim (cases_eq r.place place) [
    | inl a ↦ let is_file : is ≡ r.file = same_Some is r.file (sym ad.put ∙ sym (ap (λ n. slice_get new n) a) ∙ r.found) in
        inr (subst (λ m. IsAbsent old m) (ap (λ x. x.name) is_file ∙ r.named) ad.unnamed, empty c (subst (λ f. P f c) (sym is_file) r.shows))
    | inr a ↦ inl (record { place = r.place; file = r.file; found = sym (ad.others r.place a) ∙ r.found; named = r.named; shows = r.shows })
  ]
  | inr r ↦ inr (
    λ j f fj same. elim (cases_eq j place) [
      | inl a ↦ absurd (none-some f (sym ad.gone ∙ sym (ap (λ n. slice_get old n) a) ∙ fj))
      | inr a ↦ r.0 j f (ad.others j a ∙ fj) same
    ],
    r.1,
  )
]

-- and what was there is there
pub same_before_added : (P : Stored → List ℕ → Type 0) (old new : List Stored) (place : ℕ) (is : Stored) → Adds old new place is → P is [] → SameContents (under P new) (under P old)
same_before_added P old new place is ad empty = λ n c given. elim given [
  | inl r ↦ elim (cases_eq r.place place) [
    | inl a ↦ absurd (none-some r.file (sym ad.gone ∙ sym (ap (λ n. slice_get old n) a) ∙ r.found))
    | inr a ↦ inl (record { place = r.place; file = r.file; found = ad.others r.place a ∙ r.found; named = r.named; shows = r.shows })
  ]
  | inr r ↦ elim (cases_names is.name n) [
    | inl a ↦ inl (record { place = place; file = is; found = ad.put; named = a; shows = subst (λ t. P is t) (sym r.1) empty })
    | inr a ↦ inr (
      λ j f fj same. elim (cases_eq j place) [
        | inl b ↦ let f_is : is ≡ f = same_Some is f (sym ad.put ∙ sym (ap (λ n. slice_get new n) b) ∙ fj) in a (ap (λ x. x.name) f_is ∙ same)
        | inr b ↦ r.0 j f (sym (ad.others j b) ∙ fj) same
      ],
      r.1,
    )
  ]
]

pub still_tells_added : (old new : List Stored) (place : ℕ) (is : Stored) → Adds old new place is → Tells (texts_in old) (texts_in new)
still_tells_added old new place is ad = λ n c given. elim given [
  | inl r ↦ elim (cases_eq r.place place) [
    | inl a ↦ absurd (none-some r.file (sym ad.gone ∙ sym (ap (λ n. slice_get old n) a) ∙ r.found))
    | inr a ↦ (c, inl (record { place = r.place; file = r.file; found = ad.others r.place a ∙ r.found; named = r.named; shows = r.shows }))
  ]
  | inr r ↦ elim (cases_names is.name n) [
    | inl a ↦ (is.text, inl (record { place = place; file = is; found = ad.put; named = a; shows = refl }))
    | inr a ↦ (
      c,
      inr (
        λ j f fj same. elim (cases_eq j place) [
          | inl b ↦ let f_is : is ≡ f = same_Some is f (sym ad.put ∙ sym (ap (λ n. slice_get new n) b) ∙ fj) in a (ap (λ x. x.name) f_is ∙ same)
          | inr b ↦ r.0 j f (sym (ad.others j b) ∙ fj) same
        ],
        r.1,
      ),
    )
  ]
]

pub held_added : (old new : List Stored) (place : ℕ) (is : Stored) (name : List ℕ) (most : ℕ) → Adds old new place is
    → is.name ≡ name → is.is_held ≡ true → is.most ≡ most → Holds (slots_in old) (slots_in new) place name most
held_added old new place is name most ad named held fits = record {
  free = ap (λ o. option_and_then slot_of o) ad.gone;
  filled = slot_at new place is ad.put ∙ held_slot is name most named held fits;
  others = λ k a. slots_from old new k (ad.others k a);
}

-- a file that is given up
abbrev pub let_go : Stored → Stored
let_go file = record file { is_held = false }

slice_get-map_some : {A B : Type 0} → (v : A → B) (xs : List A) (k : ℕ) (y : B) → slice_get (map v xs) k ≡ Some y → (x : A) × (slice_get xs k ≡ Some x) × (v x ≡ y)
slice_get-map_some v [] k y e = absurd (none-some y e)
slice_get-map_some v (x ∷ xs) zero y e = (x, refl, same_Some (v x) y e)
slice_get-map_some v (x ∷ xs) (suc k) y e = slice_get-map_some v xs k y e

none_held : (o : Option Stored) → option_and_then slot_of (option_map let_go o) ≡ None
none_held None = refl
none_held (Some file) = refl

pub all_free : (old : List Stored) (k : ℕ) → slots_in (map let_go old) k ≡ None
all_free old k = ap (λ o. option_and_then slot_of o) (slice_get-map let_go old k) ∙ none_held (slice_get old k)

pub one_each_let_go : (old : List Stored) → OneEach old → OneEach (map let_go old)
one_each_let_go old each = λ i j f g fi gj same.
    let a = slice_get-map_some let_go old i f fi in
    let b = slice_get-map_some let_go old j g gj in
    each i j a.0 b.0 a.1 b.1 (ap (λ x. x.name) a.2 ∙ same ∙ sym (ap (λ x. x.name) b.2))

absent_let_go : (old : List Stored) (n : List ℕ) → IsAbsent (map let_go old) n → IsAbsent old n
absent_let_go old n absent = λ j f fj same. absent j (let_go f) (slice_get-map let_go old j ∙ ap (λ o. option_map let_go o) fj) same

pub same_under_let_go : (P : Stored → List ℕ → Type 0) (old : List Stored) → ((f : Stored) (c : List ℕ) → P (let_go f) c → P f c) → SameContents (under P old) (under P (map let_go old))
same_under_let_go P old same = λ n c given. elim given [
  | inl r ↦ let a = slice_get-map_some let_go old r.place r.file r.found in
      inl (record { place = r.place; file = a.0; found = a.1; named = ap (λ x. x.name) a.2 ∙ r.named; shows = same a.0 c (subst (λ f. P f c) (sym a.2) r.shows) })
  | inr r ↦ inr (absent_let_go old n r.0, r.1)
]

pub same_before_let_go : (P : Stored → List ℕ → Type 0) (old : List Stored) → ((f : Stored) (c : List ℕ) → P f c → P (let_go f) c) → SameContents (under P (map let_go old)) (under P old)
same_before_let_go P old same = λ n c given. elim given [
  | inl r ↦ inl (record { place = r.place; file = let_go r.file; found = slice_get-map let_go old r.place ∙ ap (λ o. option_map let_go o) r.found; named = r.named; shows = same r.file c r.shows })
  | inr r ↦ inr (λ j f fj same_name. let a = slice_get-map_some let_go old j f fj in r.0 j a.0 a.1 (ap (λ x. x.name) a.2 ∙ same_name), r.1)
]

pub still_tells_let_go : (old : List Stored) → Tells (texts_in old) (texts_in (map let_go old))
still_tells_let_go old = λ n c given. elim given [
  | inl r ↦ (c, inl (record { place = r.place; file = let_go r.file; found = slice_get-map let_go old r.place ∙ ap (λ o. option_map let_go o) r.found; named = r.named; shows = r.shows }))
  | inr r ↦ (c, inr (λ j f fj same. let a = slice_get-map_some let_go old j f fj in r.0 j a.0 a.1 (ap (λ x. x.name) a.2 ∙ same), r.1))
]

-- a search for a name has come one file further
pub absent_more : (files : List Stored) (name : List ℕ) (i : ℕ) (item : Stored) → item ≡ get_or files i item → item.name ≢ name
    → ((k : ℕ) (f : Stored) → k < i → slice_get files k ≡ Some f → f.name ≢ name)
    → (k : ℕ) (f : Stored) → k < i + 1 → slice_get files k ≡ Some f → f.name ≢ name
absent_more files name i item read apart before = λ k f h e same. elim (cases_eq k i) [
  | inl a ↦ let is : get_or files i item ≡ f = get_or_from_slice_get files i f item (sym (ap (λ n. slice_get files n) a) ∙ e) in
      apart (ap (λ x. x.name) (read ∙ is) ∙ same)
  | inr a ↦ before k f (omega arith) e same
]

-- what a slot shows of its file

held_within : (files : List Stored) (slot : ℕ) → IsSome (slots_in files slot) → slot < length files
held_within files slot held = elim (cases_lt slot (length files)) [
  | inl a ↦ a
  | inr a ↦ absurd (false≢true (subst (λ o. IsSome o) (ap (λ o. option_and_then slot_of o) (slice_get_past files slot a)) held))
]

pub held_file : (files : List Stored) (slot : ℕ) (was : Stored) → IsSome (slots_in files slot) → was ≡ get_or files slot was → slice_get files slot ≡ Some was
held_file files slot was held read = slice_get_read files (length files) slot was refl (held_within files slot held) read

name_by : (b : Bool) (own : List ℕ) (most : ℕ) → IsSome (if b then Some (let h : Held = record { name = own; most = most } in h) else None)
    → name_at (if b then Some (let h : Held = record { name = own; most = most } in h) else None) ≡ own
name_by true own most h = refl
name_by false own most h = absurd (false≢true h)

most_by : (b : Bool) (own : List ℕ) (most : ℕ) → IsSome (if b then Some (let h : Held = record { name = own; most = most } in h) else None)
    → most_at (if b then Some (let h : Held = record { name = own; most = most } in h) else None) ≡ most
most_by true own most h = refl
most_by false own most h = absurd (false≢true h)

pub held_name : (files : List Stored) (slot : ℕ) (was : Stored) → IsSome (slots_in files slot) → was ≡ get_or files slot was → name_at (slots_in files slot) ≡ was.name
held_name files slot was held read = let e = slot_at files slot was (held_file files slot was held read) in
    ap (λ o. name_at o) e ∙ name_by was.is_held was.name was.most (subst (λ o. IsSome o) e held)

pub held_most : (files : List Stored) (slot : ℕ) (was : Stored) → IsSome (slots_in files slot) → was ≡ get_or files slot was → most_at (slots_in files slot) ≡ was.most
held_most files slot was held read = let e = slot_at files slot was (held_file files slot was held read) in
    ap (λ o. most_at o) e ∙ most_by was.is_held was.name was.most (subst (λ o. IsSome o) e held)

-- a slot's file reads as what is held under its name
pub slot_reads : (files : List Stored) (slot : ℕ) (was : Stored) → IsSome (slots_in files slot) → was ≡ get_or files slot was
    → texts_in files (name_at (slots_in files slot)) was.text
slot_reads files slot was held read =
    inl (record { place = slot; file = was; found = held_file files slot was held read; named = sym (held_name files slot was held read); shows = refl })

-- and as nothing else
pub slot_reads_alone : (files : List Stored) (slot : ℕ) (was : Stored) → IsSome (slots_in files slot) → was ≡ get_or files slot was → OneEach files
    → (c : List ℕ) → texts_in files (name_at (slots_in files slot)) c → c ≡ was.text
slot_reads_alone files slot was held read each c given =
    let found = held_file files slot was held read in
    let name_is = held_name files slot was held read in
    elim given [
      | inl r ↦ let e : slot ≡ r.place = each slot r.place was r.file found r.found (sym name_is ∙ sym r.named) in
          let was_file : was ≡ r.file = same_Some was r.file (sym found ∙ ap (λ n. slice_get files n) e ∙ r.found) in
          sym r.shows ∙ sym (ap (λ x. x.text) was_file)
      | inr r ↦ absurd (r.0 slot was found (sym name_is))
    ]

-- a slot's file gets other bytes, and may leave others
pub record Rewrites (files : List Stored) (slot : ℕ) (was is : Stored) : Type 0 where
  pub held : IsSome (slots_in files slot)
  pub read : was ≡ get_or files slot was
  pub kept : is ≡ record was { text = is.text; left = is.left }

pub rewrites : (files : List Stored) (slot : ℕ) (was is : Stored) → Rewrites files slot was is → Changes files (set files slot is) slot was is
rewrites files slot was is r = record {
  found = held_file files slot was r.held r.read;
  put = slice_get-set_same files slot is (held_within files slot r.held);
  others = λ j a. slice_get-set_other files slot j is a;
  named = ap (λ x. x.name) r.kept;
}

pub follows_at : (P : Stored → List ℕ → Type 0) (step : List ℕ → List ℕ → Type 0) (files : List Stored) (slot : ℕ) (was is : Stored) → Rewrites files slot was is → OneEach files
    → Follows step (P was) (P is) → Follows step (under P files (name_at (slots_in files slot))) (under P (set files slot is) (name_at (slots_in files slot)))
follows_at P step files slot was is r each h =
    subst (λ n. Follows step (under P files n) (under P (set files slot is) n)) (sym (held_name files slot was r.held r.read))
    (follows P step files (set files slot is) slot was is (rewrites files slot was is r) each h)

pub leads_at : (P : Stored → List ℕ → Type 0) (step : List ℕ → List ℕ → Type 0) (files : List Stored) (slot : ℕ) (was is : Stored) → Rewrites files slot was is → OneEach files
    → Leads step (P was) (P is) → Leads step (under P files (name_at (slots_in files slot))) (under P (set files slot is) (name_at (slots_in files slot)))
leads_at P step files slot was is r each h =
    subst (λ n. Leads step (under P files n) (under P (set files slot is) n)) (sym (held_name files slot was r.held r.read))
    (leads P step files (set files slot is) slot was is (rewrites files slot was is r) each h)

pub others_at : (P : Stored → List ℕ → Type 0) (files : List Stored) (slot : ℕ) (was is : Stored) → Rewrites files slot was is
    → SameOthers (name_at (slots_in files slot)) (under P files) (under P (set files slot is))
others_at P files slot was is r =
    subst (λ n. SameOthers n (under P files) (under P (set files slot is))) (sym (held_name files slot was r.held r.read))
    (others_stay P files (set files slot is) slot was is (rewrites files slot was is r))

pub others_before : (P : Stored → List ℕ → Type 0) (files : List Stored) (slot : ℕ) (was is : Stored) → Rewrites files slot was is
    → SameOthers (name_at (slots_in files slot)) (under P (set files slot is)) (under P files)
others_before P files slot was is r =
    let ch = rewrites files slot was is r in
    subst (λ n. SameOthers n (under P (set files slot is)) (under P files)) (ch.named ∙ sym (held_name files slot was r.held r.read))
    (others_stay P (set files slot is) files slot is was (back files (set files slot is) slot was is ch))

pub same_at : (P : Stored → List ℕ → Type 0) (files : List Stored) (slot : ℕ) (was is : Stored) → Rewrites files slot was is → ((c : List ℕ) → P is c → P was c)
    → SameContents (under P files) (under P (set files slot is))
same_at P files slot was is r same = same_under P files (set files slot is) slot was is (rewrites files slot was is r) same

pub same_before : (P : Stored → List ℕ → Type 0) (files : List Stored) (slot : ℕ) (was is : Stored) → Rewrites files slot was is → ((c : List ℕ) → P was c → P is c)
    → SameContents (under P (set files slot is)) (under P files)
same_before P files slot was is r same =
    same_under P (set files slot is) files slot is was (back files (set files slot is) slot was is (rewrites files slot was is r)) same

pub tells_at : (files : List Stored) (slot : ℕ) (was is : Stored) → Rewrites files slot was is → Tells (texts_in files) (texts_in (set files slot is))
tells_at files slot was is r = still_tells files (set files slot is) slot was is (rewrites files slot was is r)

pub slots_at : (files : List Stored) (slot : ℕ) (was is : Stored) → Rewrites files slot was is → SameSlots (slots_in files) (slots_in (set files slot is))
slots_at files slot was is r = same_slots files (set files slot is) slot was is (rewrites files slot was is r) (ap (λ x. slot_of x) r.kept)

-- ---- soundness

pub sound_change : (old new : List Stored) (place : ℕ) (was is : Stored) → Changes old new place was is → AreSound old → (IsSound was → IsSound is) → AreSound new
sound_change old new place was is ch sound step = λ k f fk. elim (cases_eq k place) [
  | inl a ↦ let is_file : is ≡ f = same_Some is f (sym ch.put ∙ sym (ap (λ n. slice_get new n) a) ∙ fk) in subst IsSound is_file (step (sound place was ch.found))
  | inr a ↦ sound k f (sym (ch.others k a) ∙ fk)
]

pub sound_at : (files : List Stored) (slot : ℕ) (was is : Stored) → Rewrites files slot was is → AreSound files → (IsSound was → IsSound is) → AreSound (set files slot is)
sound_at files slot was is r sound step = sound_change files (set files slot is) slot was is (rewrites files slot was is r) sound step

pub sound_of : (files : List Stored) (slot : ℕ) (was is : Stored) → Rewrites files slot was is → AreSound files → IsSound was
sound_of files slot was is r sound = sound slot was (held_file files slot was r.held r.read)

pub sound_added : (old new : List Stored) (place : ℕ) (is : Stored) → Adds old new place is → AreSound old → IsSound is → AreSound new
sound_added old new place is ad sound here = λ k f fk. elim (cases_eq k place) [
  | inl a ↦ let is_file : is ≡ f = same_Some is f (sym ad.put ∙ sym (ap (λ n. slice_get new n) a) ∙ fk) in subst IsSound is_file here
  | inr a ↦ sound k f (sym (ad.others k a) ∙ fk)
]

sound_given_up : (f : Stored) → IsSound f → IsSound (let_go f)
sound_given_up f sound = record { reads = sound.reads; grown = sound.grown }

pub sound_let_go : (old : List Stored) → AreSound old → AreSound (map let_go old)
sound_let_go old sound = λ k f fk. let a = slice_get-map_some let_go old k f fk in subst IsSound a.2 (sound_given_up a.0 (sound k a.0 a.1))

pub changed : (step : List ℕ → List ℕ → Type 0) (files : List Stored) (slot : ℕ) (was is : Stored) → Rewrites files slot was is → OneEach files → AreSound files
    → Follows step (IsLeft was.left) (IsLeft is.left) → Leads step (IsLeft was.left) (IsLeft is.left) → IsSound is → IsChange slot step files (set files slot is)
changed step files slot was is r each sound back_is forth_is here = record {
  others = others_at (λ file c. file.text ≡ c) files slot was is r;
  tells = tells_at files slot was is r;
  left = record {
    back = follows_at (λ file c. IsLeft file.left c) step files slot was is r each back_is;
    forth = leads_at (λ file c. IsLeft file.left c) step files slot was is r each forth_is;
    others_back = others_at (λ file c. IsLeft file.left c) files slot was is r;
    others_forth = others_before (λ file c. IsLeft file.left c) files slot was is r;
  };
  slots = slots_at files slot was is r;
  one_each = one_each files (set files slot is) slot was is (rewrites files slot was is r) each;
  sound = sound_at files slot was is r sound (λ _. here);
}

-- the file's text changes by a step
pub text_at : (step : List ℕ → List ℕ → Type 0) (files : List Stored) (slot : ℕ) (was is : Stored) → Rewrites files slot was is → OneEach files → step was.text is.text
    → Follows step (texts_in files (name_at (slots_in files slot))) (texts_in (set files slot is) (name_at (slots_in files slot)))
text_at step files slot was is r each h = follows_at (λ file c. file.text ≡ c) step files slot was is r each (λ c e. (was.text, refl, subst (λ t. step was.text t) e h))

-- or not at all
pub text_stays : (files : List Stored) (slot : ℕ) (was is : Stored) → Rewrites files slot was is → is.text ≡ was.text → SameContents (texts_in files) (texts_in (set files slot is))
text_stays files slot was is r same = same_at (λ file c. file.text ≡ c) files slot was is r (λ c e. sym same ∙ e)

-- all files are given up
pub all_let_go : (old new : List Stored) (i : ℕ) → length old ≤ i → new ≡ map let_go (take i old) ++ drop i old → new ≡ map let_go old
all_let_go old new i h e = e ∙ ap (λ l. map let_go l ++ drop i old) (take_all i old h) ∙ ap (λ l. map let_go old ++ l) (drop_all i old h) ∙ append-nil (map let_go old)

found_by : (files : List Stored) (place : ℕ) (was : Stored) (name : List ℕ) (o : Option Stored) → slice_get files place ≡ o → IsSomeAnd o (λ f. f.name ≡ name)
    → was ≡ get_or files place was → (slice_get files place ≡ Some was) × (was.name ≡ name)
found_by files place was name None e found read = absurd found
found_by files place was name (Some f) e found read =
    let is : was ≡ f = read ∙ get_or_from_slice_get files place f was e in
    (e ∙ ap (λ x. let o : Option Stored = Some x in o) (sym is), ap (λ x. x.name) is ∙ found)

-- a file that is found by its name
pub found_file : (files : List Stored) (place : ℕ) (was : Stored) (name : List ℕ) → IsSomeAnd (slice_get files place) (λ f. f.name ≡ name) → was ≡ get_or files place was
    → (slice_get files place ≡ Some was) × (was.name ≡ name)
found_file files place was name found read = found_by files place was name (slice_get files place) refl found read

pub reheld : (files : List Stored) (place : ℕ) (was is : Stored) (name : List ℕ) (most : ℕ) → IsSomeAnd (slice_get files place) (λ f. f.name ≡ name) → was ≡ get_or files place was
    → is ≡ record was { is_held = true; most = most } → Changes files (set files place is) place was is
reheld files place was is name most found read e =
    let f = found_file files place was name found read in
    record {
      found = f.0;
      put = slice_get-set_same files place is (slice_get_within files place was f.0);
      others = λ j a. slice_get-set_other files place j is a;
      named = ap (λ x. x.name) e;
    }

-- a file that stays as it was
pub refused_file : (files : List Stored) (place : ℕ) (was is : Stored) (name : List ℕ) → IsSomeAnd (slice_get files place) (λ f. f.name ≡ name) → was ≡ get_or files place was
    → is ≡ was → Changes files (set files place is) place was is
refused_file files place was is name found read e =
    let f = found_file files place was name found read in
    record {
      found = f.0;
      put = slice_get-set_same files place is (slice_get_within files place was f.0);
      others = λ j a. slice_get-set_other files place j is a;
      named = ap (λ x. x.name) e;
    }
