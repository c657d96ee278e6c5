-- A text without directives has a table of the ends of its lists.
use Rattle.std.proofs.Common.{ℕ, zero, suc, ◌+◌, ◌*◌, ◌/◌, ◌%◌, ◌≡◌, ◌<◌, ◌≤◌, nat_eq, nat_lt, Bool, true, false, not, ◌&&◌, if◌then◌else◌, List, [], ◌∷◌, length, slice_get, slice_index, Some, None, refl, ap, subst, sym, ◌∙◌, arith}
use Rattle.std.specs.List.{list_all}
use Rattle.text_structure.specs.declared.mark.Known.{Known}
use Rattle.text_structure.specs.declared.mark.Mark.{Mark}
use Rattle.text_structure.specs.declared.closer.Closer.{Closer}
use Rattle.text_structure.specs.declared.closer.Turn.{Turn}
use Rattle.text_structure.specs.Turns.{sign_in, sign_at, directive_in, directive_at, turn_at, sign_turn, bracket_turn, mixed_turn, closing, opens_angle, is_end, past, past_end, past_brace, past_sign}
use Rattle.text_structure.specs.Ends.{Ends}
use Rattle.text_structure.specs.Tables.{numbered, IsEntry, IsTable}

-- a mark of a token that begins nothing where no name is bound
abbrev pub is_still : Mark → Bool
is_still (Mark.Sign code) = not (nat_eq code 35)
is_still (Mark.Known Known.Defined) = false
is_still other = true

pub both_true : (a b : Bool) → (a && b) ≡ true → (a ≡ true) × (b ≡ true)
both_true true b is = (refl, is)
both_true false b is = absurd (cc is)

pub not_true : (b : Bool) → not b ≡ true → b ≡ false
not_true false is = refl
not_true true is = absurd (cc is)

mark_sign : (x : Mark) → is_still x ≡ true → nat_eq (sign_in (Some x)) 35 ≡ false
mark_sign (Mark.Sign code) is = not_true (nat_eq code 35) is
mark_sign Mark.Number is = refl
mark_sign Mark.Text is = refl
mark_sign (Mark.Known known) is = refl
mark_sign (Mark.Name name) is = refl

sign_still : (m : List Mark) (at : ℕ) → list_all is_still m ≡ true → nat_eq (sign_at m at) 35 ≡ false
sign_still [] at is = refl
sign_still (x ∷ m) zero is = mark_sign x (both_true (is_still x) (list_all is_still m) is).0
sign_still (x ∷ m) (suc at) is = sign_still m at (both_true (is_still x) (list_all is_still m) is).1

pub no_directive : (m : List Mark) (at : ℕ) → list_all is_still m ≡ true → directive_at m at ≡ None
no_directive m at is = ap (λ b. if b then directive_in (slice_get m (at + 1)) else None) (sign_still m at is)

-- ---- what a token is to a list: its end, or the list goes on right behind it

data IsNear (at : ℕ) : Turn → Type 0 where
  stop : IsNear at Turn.Stop
  over : IsNear at (Turn.Over (at + 1))
  inside : (inner : Closer) → IsNear at (Turn.Inside inner (at + 1))

if_near : (at : ℕ) (b : Bool) (t u : Turn) → IsNear at t → IsNear at u → IsNear at (if b then t else u)
if_near at true t u p q = p
if_near at false t u p q = q

bracket_near : (closer : Closer) (opening at code : ℕ) → IsNear at (bracket_turn closer opening at code)
bracket_near closer opening at code =
    if_near at (nat_eq code opening) (Turn.Inside closer (at + 1)) (if nat_eq code (closing closer) then Turn.Stop else Turn.Over (at + 1)) (IsNear.inside closer)
    (if_near at (nat_eq code (closing closer)) Turn.Stop (Turn.Over (at + 1)) IsNear.stop IsNear.over)

angle_near : (m : List Mark) (at code : ℕ) → IsNear at (if nat_eq code 60 && opens_angle m at then Turn.Inside Closer.Angle (at + 1) else Turn.Over (at + 1))
angle_near m at code = if_near at (nat_eq code 60 && opens_angle m at) (Turn.Inside Closer.Angle (at + 1)) (Turn.Over (at + 1)) (IsNear.inside Closer.Angle) IsNear.over

mixed_near : (m : List Mark) (closer : Closer) (at code : ℕ) → IsNear at (mixed_turn m closer at code)
mixed_near m closer at code =
    if_near at (nat_eq code (closing closer)) Turn.Stop _ IsNear.stop
    (if_near at (nat_eq code 40) (Turn.Inside Closer.Round (at + 1)) _ (IsNear.inside Closer.Round)
    (if_near at (nat_eq code 91) (Turn.Inside Closer.Square (at + 1)) _ (IsNear.inside Closer.Square)
    (if_near at (nat_eq code 123) (Turn.Inside Closer.Curly (at + 1)) _ (IsNear.inside Closer.Curly) (angle_near m at code))))

sign_near : (m : List Mark) (closer : Closer) (at code : ℕ) → IsNear at (sign_turn m closer at code)
sign_near m Closer.End at code = IsNear.over
sign_near m Closer.Branch at code = IsNear.over
sign_near m Closer.Parenthesis at code = bracket_near Closer.Parenthesis 40 at code
sign_near m Closer.Brace at code = bracket_near Closer.Brace 123 at code
sign_near m Closer.Semicolon at code = mixed_near m Closer.Semicolon at code
sign_near m Closer.Comma at code = mixed_near m Closer.Comma at code
sign_near m Closer.Round at code = mixed_near m Closer.Round at code
sign_near m Closer.Square at code = mixed_near m Closer.Square at code
sign_near m Closer.Curly at code = mixed_near m Closer.Curly at code
sign_near m Closer.Angle at code = mixed_near m Closer.Angle at code

near : (m : List Mark) (closer : Closer) (at : ℕ) → list_all is_still m ≡ true → at < length m → IsNear at (turn_at m closer at)
near m closer at still within =
    let there : nat_lt at (length m) ≡ true = grind (arith, within) in
    let hash : nat_eq (sign_at m at) 35 ≡ false = sign_still m at still in
    let same : turn_at m closer at ≡ sign_turn m closer at (sign_at m at) = rw (there, hash) refl in
    subst (λ t. IsNear at t) (sym same) (sign_near m closer at (sign_at m at))

-- ---- behind an inner list

sign_within : (m : List Mark) (at code : ℕ) → 0 < code → nat_eq (sign_at m at) code ≡ true → at < length m
sign_within [] at code some is = absurd (never code some is)
  where
    never : (code : ℕ) → 0 < code → nat_eq 0 code ≡ true → ⊥
    never code some is = grind arith
sign_within (x ∷ m) zero code some is = omega arith
sign_within (x ∷ m) (suc at) code some is = let there = sign_within m at code some is in omega (arith, there)

-- not before, and within the text
record IsBehind (at count next : ℕ) : Type 0 where
  behind : at ≤ next
  within : at ≤ count → next ≤ count

sign_behind : (b : Bool) (at count : ℕ) → (b ≡ true → at < count) → IsBehind at count (if b then at + 1 else at)
sign_behind true at count some = let there = some refl in record { behind = omega arith; within = λ h. omega (arith, there) }
sign_behind false at count some = record { behind = omega arith; within = λ h. h }

brace_behind : (a b : Bool) (at count : ℕ) → (a ≡ true → at < count) → (b ≡ true → at + 1 < count) → IsBehind at count (if not a then at else (if b then at + 2 else at + 1))
brace_behind false b at count some more = record { behind = omega arith; within = λ h. h }
brace_behind true true at count some more = let there = more refl in record { behind = omega arith; within = λ h. omega (arith, there) }
brace_behind true false at count some more = let there = some refl in record { behind = omega arith; within = λ h. omega (arith, there) }

past_behind : (m : List Mark) (inner : Closer) (at : ℕ) → list_all is_still m ≡ true → IsBehind at (length m) (past m inner at)
past_behind m Closer.End at still =
    subst (λ d. IsBehind at (length m) (if is_end d then at + 2 else at)) (sym (no_directive m at still)) (record { behind = omega arith; within = λ h. h })
past_behind m Closer.Branch at still = record { behind = omega arith; within = λ h. h }
past_behind m Closer.Comma at still = record { behind = omega arith; within = λ h. h }
past_behind m Closer.Brace at still = brace_behind (nat_eq (sign_at m at) 125) (nat_eq (sign_at m (at + 1)) 59) at (length m) (sign_within m at 125 (omega arith)) (sign_within m (at + 1) 59 (omega arith))
past_behind m Closer.Parenthesis at still = sign_behind (nat_eq (sign_at m at) 41) at (length m) (sign_within m at 41 (omega arith))
past_behind m Closer.Semicolon at still = sign_behind (nat_eq (sign_at m at) 59) at (length m) (sign_within m at 59 (omega arith))
past_behind m Closer.Round at still = sign_behind (nat_eq (sign_at m at) 41) at (length m) (sign_within m at 41 (omega arith))
past_behind m Closer.Square at still = sign_behind (nat_eq (sign_at m at) 93) at (length m) (sign_within m at 93 (omega arith))
past_behind m Closer.Curly at still = sign_behind (nat_eq (sign_at m at) 125) at (length m) (sign_within m at 125 (omega arith))
past_behind m Closer.Angle at still = sign_behind (nat_eq (sign_at m at) 62) at (length m) (sign_within m at 62 (omega arith))

-- ---- each list ends

abbrev Found : List Mark → Closer → ℕ → Type 0
Found m closer at = (end : ℕ) × IsEntry m closer at end

found_by : (m : List Mark) (closer : Closer) (k at : ℕ) (t : Turn) → list_all is_still m ≡ true → ((inner : Closer) (next : ℕ) → next ≤ length m → length m ≤ next + k → Found m inner next) → turn_at m closer at ≡ t → IsNear at t → at < length m → length m ≤ at + suc k → Found m closer at
found_by m closer k at _ still rest is IsNear.stop within far = (at, record { ends = Ends.here closer at is; behind = omega arith; within = omega (arith, within) })
found_by m closer k at _ still rest is IsNear.over within far =
    let more : Found m closer (at + 1) = rest closer (at + 1) (omega (arith, within)) (omega (arith, far)) in
    let behind = more.1.behind in
    (more.0, record { ends = Ends.over closer at (at + 1) more.0 is more.1.ends; behind = omega (arith, behind); within = more.1.within })
found_by m closer k at _ still rest is (IsNear.inside inner) within far =
    let last : Found m inner (at + 1) = rest inner (at + 1) (omega (arith, within)) (omega (arith, far)) in
    let next : IsBehind last.0 (length m) (past m inner last.0) = past_behind m inner last.0 still in
    let e1 = last.1.behind in let e2 = next.behind in
    let more : Found m closer (past m inner last.0) = rest closer (past m inner last.0) (next.within last.1.within) (omega (arith, far, e1, e2)) in
    let e3 = more.1.behind in
    (more.0, record { ends = Ends.inside closer inner at (at + 1) last.0 more.0 is last.1.ends more.1.ends; behind = omega (arith, e1, e2, e3); within = more.1.within })

past_all : (m : List Mark) (closer : Closer) (at : ℕ) → nat_lt at (length m) ≡ false → at ≤ length m → Found m closer at
past_all m closer at out within = (at, record { ends = Ends.here closer at (rw out refl); behind = omega arith; within = within })

find_next : (b : Bool) (k : ℕ) (m : List Mark) (closer : Closer) (at : ℕ) → ((inner : Closer) (next : ℕ) → next ≤ length m → length m ≤ next + k → Found m inner next) → list_all is_still m ≡ true → at ≤ length m → length m ≤ at + suc k → nat_lt at (length m) ≡ b → Found m closer at
find_next false k m closer at rest still within far out = past_all m closer at out within
find_next true k m closer at rest still within far there =
    let ahead : at < length m = grind (arith, there) in
    found_by m closer k at (turn_at m closer at) still rest refl (near m closer at still ahead) ahead far

find : (k : ℕ) (m : List Mark) (closer : Closer) (at : ℕ) → list_all is_still m ≡ true → at ≤ length m → length m ≤ at + k → Found m closer at
find zero m closer at still within far = past_all m closer at (grind (arith, far)) within
find (suc k) m closer at still within far = find_next (nat_lt at (length m)) k m closer at (λ inner next inside further. find k m inner next still inside further) still within far refl

-- ---- and so there is a table

abbrev Chosen : (ℕ → ℕ → Type 0) → ℕ → Type 0
Chosen P count = (xs : List ℕ) × (length xs ≡ count) × ((k : ℕ) → k < count → P k (slice_index xs k))

at_cons : (P : ℕ → ℕ → Type 0) (x count : ℕ) (xs : List ℕ) → P zero x → ((k : ℕ) → k < count → P (suc k) (slice_index xs k)) → (k : ℕ) → k < suc count → P k (slice_index (x ∷ xs) k)
at_cons P x count xs first rest zero within = first
at_cons P x count xs first rest (suc k) within = rest k (omega (arith, within))

choose : (P : ℕ → ℕ → Type 0) (count : ℕ) → ((k : ℕ) → k < count → (e : ℕ) × P k e) → Chosen P count
choose P zero f = ([], refl, λ k within. absurd (never k within))
  where
    never : (k : ℕ) → k < 0 → ⊥
    never k within = grind arith
choose P (suc count) f =
    let first = f zero (omega arith) in
    let rest : Chosen (λ k e. P (suc k) e) count = choose (λ k e. P (suc k) e) count (λ k within. f (suc k) (omega (arith, within))) in
    (first.0 ∷ rest.0, ap suc rest.1, at_cons P first.0 count rest.0 first.1 rest.2)

row_within : (k n : ℕ) → k < (n + 1) * 10 → k / 10 ≤ n
row_within k n within = omega (arith, within)

pub has_table : (m : List Mark) → list_all is_still m ≡ true → (ends : List ℕ) × (length ends ≡ (length m + 1) * 10) × IsTable m 0 ends
has_table m still =
    let made : Chosen (λ k e. IsEntry m (numbered (k % 10)) (k / 10) e) ((length m + 1) * 10) =
    choose (λ k e. IsEntry m (numbered (k % 10)) (k / 10) e) ((length m + 1) * 10) (λ k within. find (length m) m (numbered (k % 10)) (k / 10) still (row_within k (length m) within) (omega arith)) in
    (made.0, made.1, λ k from within. made.2 k (subst (λ n. k < n) made.1 within))
