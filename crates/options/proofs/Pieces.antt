-- The first piece of a line, and the first line of a text.
use Rattle.std.proofs.Common.{◌≡◌, ℕ, suc, ◌+◌, ◌<◌, ◌≤◌, Bool, true, false, not, cond, ◌||◌, ◌==◌, nat_lt, List, [], ◌∷◌, length, Option, Ok, take, drop, filter, refl, sym, ap, ◌∙◌, subst, arith, take_all, length-take, inl, inr}
use Rattle.std.proofs.lemmas.Bool.{cases_lt, cases_Bool}
use Rattle.std.proofs.lemmas.List.{drop_all}
use Rattle.std.specs.List.{slice_split, position_or_len, list_all}
use Rattle.std.proofs.lemmas.List.Splits.{slice_split_first, length-slice_split}
use Rattle.std.proofs.lemmas.Bool.Decides.{nat_tests}
use Rattle.std.specs.Str.Lines.{lines, lines_of_parts, strip_carriage_return}
use Rattle.options.specs.declared.fault.Where.{Where}
use Rattle.options.specs.declared.fault.Where.TheVariants.{Line}
use Rattle.options.specs.declared.draft.Draft.{Draft}
use Rattle.options.specs.Outcomes.{◌>>=◌}
use Rattle.options.specs.Ini.{is_blank, is_signed, is_fine, is_some_text, pieces, piece_read, pieces_read, bare, first_line, section_in, counts_behind, line_step, lines_read, is_named, has_section}

-- where no byte passes, the list is the one part
split_none : (p : ℕ → Bool) (s : List ℕ) → position_or_len p s ≡ length s → slice_split p s ≡ s ∷ []
split_none p [] e = refl
split_none p (x ∷ s) e = elim (cases_Bool (p x)) [
  | inl passes ↦ let none : 0 ≡ suc (length s) = subst (λ b. cond (not b) (1 + position_or_len p s) 0 ≡ suc (length s)) passes e in absurd (omega arith)
  | inr fails ↦
      let more : 1 + position_or_len p s ≡ suc (length s) = subst (λ b. cond (not b) (1 + position_or_len p s) 0 ≡ suc (length s)) fails e in
      let rest : slice_split p s ≡ s ∷ [] = split_none p s (omega arith) in
      rw (fails, rest) refl
]

drop_past : (n : ℕ) (s : List ℕ) → length s ≤ n → drop (n + 1) s ≡ []
drop_past n s le = drop_all (n + 1) s (omega arith)

-- the parts of a list that isn't empty: its front up to the first byte that passes, and those behind it
pub split_step : (p : ℕ → Bool) (s : List ℕ) (n : ℕ) → n ≡ position_or_len p s → n < length s → slice_split p s ≡ take n s ∷ slice_split p (drop (n + 1) s)
split_step p s n is within =
    let first = slice_split_first p s 0 (subst (λ k. k < length s) is within) in
    subst (λ k. slice_split p s ≡ take k s ∷ slice_split p (drop (k + 1) s)) (sym is) first

pub pieces_within : (s : List ℕ) (n : ℕ) → n ≡ position_or_len is_blank s → n < length s → pieces s ≡ filter is_some_text (take n s ∷ slice_split is_blank (drop (n + 1) s))
pieces_within s n is within = ap (λ parts. filter is_some_text parts) (split_step is_blank s n is within)

some_front : (n : ℕ) (s : List ℕ) → 0 < n → n ≤ length s → is_some_text (take n s) ≡ true
some_front n s some within = let e : length (take n s) ≡ n = omega (arith, length-take n s) in rw e (grind (arith, nat_tests))

-- a piece that isn't empty, and those behind the blank
pub pieces_some : (s : List ℕ) (n : ℕ) → n ≡ position_or_len is_blank s → 0 < n → n ≤ length s → pieces s ≡ take n s ∷ pieces (drop (n + 1) s)
pieces_some s n is some within = elim (cases_lt n (length s)) [
  | inl below ↦ pieces_within s n is below ∙ (let e : is_some_text (take n s) ≡ true = some_front n s some within in rw e refl)
  | inr above ↦
      let all : n ≡ length s = omega arith in
      let one : slice_split is_blank s ≡ s ∷ [] = split_none is_blank s (sym is ∙ all) in
      let front : take n s ≡ s = ap (λ k. take k s) all ∙ take_all (length s) s (omega arith) in
      let behind : drop (n + 1) s ≡ [] = drop_past n s (omega arith) in
      let e : is_some_text s ≡ true = subst (λ t. is_some_text t ≡ true) front (some_front n s some within) in
      ap (λ parts. filter is_some_text parts) one ∙ (rw (e, behind, front) refl)
]

-- a blank first
pub pieces_none : (s : List ℕ) (n : ℕ) → n ≡ position_or_len is_blank s → n ≡ 0 → 0 < length s → pieces s ≡ pieces (drop (n + 1) s)
pieces_none s n is zero some =
    pieces_within s n is (omega arith) ∙ (let e : take n s ≡ [] = ap (λ k. take k s) zero in rw e refl)

pub pieces_empty : (s : List ℕ) → length s ≡ 0 → pieces s ≡ []
pieces_empty [] e = refl
pieces_empty (b ∷ s) e = absurd (omega arith)

-- ---- a row of switches, piece by piece

fine_signed : (n : ℕ) (s : List ℕ) (b : Bool) → 0 < n → n ≤ length s → is_fine (take n s) ≡ b → is_signed (take n s) ≡ b
fine_signed n s b some within fine =
    let e : length (take n s) ≡ n = omega (arith, length-take n s) in
    let z : (length (take n s) == 0) ≡ false = rw e (grind (arith, nat_tests)) in
    subst (λ v. (v || is_signed (take n s)) ≡ b) z fine

pub all_step : (s : List ℕ) (n : ℕ) → n ≡ position_or_len is_blank s → n ≤ length s → 0 < length s → is_fine (take n s) ≡ true → list_all is_signed (pieces s) ≡ list_all is_signed (pieces (drop (n + 1) s))
all_step s n is within some fine = elim (cases_lt 0 n) [
  | inl front ↦ ap (list_all is_signed) (pieces_some s n is front within) ∙ (let e : is_signed (take n s) ≡ true = fine_signed n s true front within fine in rw e refl)
  | inr none ↦ ap (list_all is_signed) (pieces_none s n is (omega arith) some)
]

pub all_fails : (s : List ℕ) (n : ℕ) → n ≡ position_or_len is_blank s → n ≤ length s → 0 < length s → is_fine (take n s) ≡ false → list_all is_signed (pieces s) ≡ false
all_fails s n is within some fine = elim (cases_lt 0 n) [
  | inl front ↦ ap (list_all is_signed) (pieces_some s n is front within) ∙ (let e : is_signed (take n s) ≡ false = fine_signed n s false front within fine in rw e refl)
  | inr none ↦
      let z : n ≡ 0 = omega arith in
      let t : true ≡ false = subst (λ k. is_fine (take k s) ≡ false) z fine in
      cc
]

-- a piece, and then those behind it
pub read_step : (place : Where) (s : List ℕ) (n : ℕ) (draft : Draft) → n ≡ position_or_len is_blank s → n ≤ length s → 0 < length s → pieces_read place (pieces s) draft ≡ (piece_read place (take n s) draft >>= λ next. pieces_read place (pieces (drop (n + 1) s)) next)
unfolding pieces_read
read_step place s n draft is within some = elim (cases_lt 0 n) [
  | inl front ↦ ap (λ ps. pieces_read place ps draft) (pieces_some s n is front within)
  | inr none ↦
      let z : n ≡ 0 = omega arith in
      let e : take n s ≡ [] = ap (λ k. take k s) z in
      ap (λ ps. pieces_read place ps draft) (pieces_none s n is z some) ∙ (rw e refl)
]

pub read_none : (place : Where) (s : List ℕ) (draft : Draft) → length s ≡ 0 → pieces_read place (pieces s) draft ≡ Ok draft
unfolding pieces_read
read_none place s draft none = rw (pieces_empty s none) refl

-- ---- the lines of a text

ended : (x : List ℕ) (parts : List (List ℕ)) → 0 < length parts → lines_of_parts (x ∷ parts) ≡ strip_carriage_return x ∷ lines_of_parts parts
ended x [] some = absurd (omega arith)
ended x (y ∷ more) some = refl

some_parts : (s : List ℕ) → 0 < length (slice_split (λ b. b == 10) s)
some_parts s = omega (arith, length-slice_split (λ b. b == 10) s)

-- a line up to its line feed, and those behind it
pub lines_ended : (s : List ℕ) (n : ℕ) → n ≡ position_or_len (λ b. b == 10) s → n < length s → lines s ≡ strip_carriage_return (take n s) ∷ lines (drop (n + 1) s)
lines_ended s n is within =
    ap lines_of_parts (split_step (λ b. b == 10) s n is within) ∙ ended (take n s) (slice_split (λ b. b == 10) (drop (n + 1) s)) (some_parts (drop (n + 1) s))

last_line : (s : List ℕ) → 0 < length s → lines_of_parts (s ∷ []) ≡ s ∷ []
last_line [] some = absurd (omega arith)
last_line (b ∷ s) some = let e : (suc (length s) == 0) ≡ false = grind (arith, nat_tests) in rw e refl

-- the last line
pub lines_last : (s : List ℕ) (n : ℕ) → n ≡ position_or_len (λ b. b == 10) s → n ≡ length s → 0 < length s → lines s ≡ s ∷ lines (drop (n + 1) s)
lines_last s n is all some =
    let behind : drop (n + 1) s ≡ [] = drop_past n s (omega arith) in
    ap lines_of_parts (split_none (λ b. b == 10) s (sym is ∙ all)) ∙ last_line s some ∙ (rw behind refl)

pub lines_empty : (s : List ℕ) → length s ≡ 0 → lines s ≡ []
lines_empty [] e = refl
lines_empty (b ∷ s) e = absurd (omega arith)

-- the first line, and those behind it
pub lines_step : (s : List ℕ) (n : ℕ) → n ≡ position_or_len (λ b. b == 10) s → n ≤ length s → 0 < length s → lines s ≡ first_line s n ∷ lines (drop (n + 1) s)
lines_step s n is within some = elim (cases_lt n (length s)) [
  | inl below ↦ let e : nat_lt n (length s) ≡ true = grind (arith, nat_tests) in lines_ended s n is below ∙ (rw e refl)
  | inr above ↦ let e : nat_lt n (length s) ≡ false = grind (arith, nat_tests) in lines_last s n is (omega arith) some ∙ (rw e refl)
]

pub section_step : (name s : List ℕ) (n : ℕ) → n ≡ position_or_len (λ b. b == 10) s → n ≤ length s → 0 < length s → has_section name (lines s) ≡ (is_named name (section_in (bare (first_line s n))) || has_section name (lines (drop (n + 1) s)))
section_step name s n is within some = ap (has_section name) (lines_step s n is within some)

pub section_none : (name s : List ℕ) → length s ≡ 0 → has_section name (lines s) ≡ false
section_none name s e = ap (has_section name) (lines_empty s e)

-- a line, and then those behind it
pub line_by_line : (chosen : Option (List ℕ)) (number : ℕ) (counts : Bool) (s : List ℕ) (n : ℕ) (draft : Draft) → n ≡ position_or_len (λ b. b == 10) s → n ≤ length s → 0 < length s →
    lines_read chosen number counts (lines s) draft
    ≡ (line_step (Line number) counts (section_in (bare (first_line s n))) (bare (first_line s n)) draft >>= λ next. lines_read chosen (number + 1) (counts_behind chosen counts (section_in (bare (first_line s n)))) (lines (drop (n + 1) s)) next)
unfolding lines_read
line_by_line chosen number counts s n draft is within some = ap (λ ls. lines_read chosen number counts ls draft) (lines_step s n is within some)

pub no_lines : (chosen : Option (List ℕ)) (number : ℕ) (counts : Bool) (s : List ℕ) (draft : Draft) → length s ≡ 0 → lines_read chosen number counts (lines s) draft ≡ Ok draft
unfolding lines_read
no_lines chosen number counts s draft e = rw (lines_empty s e) refl

-- ---- the same, with what the code holds of the first line

pub section_first : (name s front line : List ℕ) (section : Option (List ℕ)) (n : ℕ) → n ≡ position_or_len (λ b. b == 10) s → n ≤ length s → 0 < length s → front ≡ first_line s n → line ≡ bare front → section ≡ section_in line → has_section name (lines s) ≡ (is_named name section || has_section name (lines (drop (n + 1) s)))
section_first name s front line section n is within some e1 e2 e3 =
    let t : section ≡ section_in (bare (first_line s n)) = e3 ∙ ap section_in (e2 ∙ ap bare e1) in
    rw t (section_step name s n is within some)

pub line_first : (chosen : Option (List ℕ)) (number : ℕ) (counts : Bool) (s front line : List ℕ) (section : Option (List ℕ)) (n : ℕ) (draft : Draft) → n ≡ position_or_len (λ b. b == 10) s → n ≤ length s → 0 < length s → front ≡ first_line s n → line ≡ bare front → section ≡ section_in line →
    lines_read chosen number counts (lines s) draft
    ≡ (line_step (Line number) counts section line draft >>= λ next. lines_read chosen (number + 1) (counts_behind chosen counts section) (lines (drop (n + 1) s)) next)
line_first chosen number counts s front line section n draft is within some e1 e2 e3 =
    let l : line ≡ bare (first_line s n) = e2 ∙ ap bare e1 in
    let t : section ≡ section_in (bare (first_line s n)) = e3 ∙ ap section_in l in
    rw (t, l) (line_by_line chosen number counts s n draft is within some)
