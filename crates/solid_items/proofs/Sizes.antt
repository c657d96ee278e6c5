-- What is read is in its range, and parts at an equal place are the same.
use Rattle.std.proofs.Common.{◌≡◌, ◌≢◌, ◌≤◌, ℕ, ℤ, pos, neg_ℤ, Bool, true, false, Option, Some, None, Result, Ok, Err, IfOk, refl, sym, subst, arith}
use Rattle.std.proofs.lemmas.Int.{ints}
use Rattle.std.specs.Prelude.{◌&&◌, not, ◌≤ℤ◌, int_le, unsigned_abs, List}
use Rattle.std.specs.Ordering.{int_eq}
use Rattle.fix_math.specs.declared.fix.V3.{V3}
use Rattle.fix_math.specs.Matrices.{IsVectorWithin}
use Rattle.scene_lexer.specs.declared.token.Place.{Place}
use Rattle.scene_lexer.specs.declared.token.Token.{Token as TextToken}
use Rattle.scene_expr.specs.declared.value.Settings.{Settings}
use Rattle.scene_expr.specs.declared.value.Value.{Value}
use Rattle.scene_expr.specs.Then.{IsThen}
use Rattle.scene_model.specs.Amounts.{IsAmount}
use Rattle.item_blocks.specs.declared.fault.ParseFault.{ParseFault}
use Rattle.item_blocks.specs.Tokens.{Behind, behind, Reading}
use Rattle.item_blocks.specs.Parameters.{is_between, is_vector_between, in_range, checked, vector_in, float_in, point_of, IsParameter}
use Rattle.solid_items.specs.Solids.{is_same, differing, other_of, radius_of, distance_of, IsOther}

-- a part at an equal place
pub place_same : {A : Type 0} (part : Reading A) (x y : ℕ) (r : Result (Behind A) ParseFault) → x ≡ y → part x r → part y r
place_same part x y r is p = subst (λ n. part n r) is p

-- a point that differs from an equal one
pub other_same : (tokens : List TextToken) (set : Settings) (a b : V3) (at : ℕ) (r : Result (Behind V3) ParseFault) → a ≡ b → IsOther a tokens set at r → IsOther b tokens set at r
other_same tokens set a b at r is p = subst (λ (o : V3). IsOther o tokens set at r) is p

-- ---- what holds of each value of a parameter holds of the one that is read

kept_is : {A E : Type 0} (Q : A → Type 0) (m r : Result A E) → r ≡ m → IfOk m Q → IfOk r Q
kept_is Q m r is holds = subst (λ (x : _). IfOk x Q) (sym is) holds

kept_behind : {A : Type 0} (Q : A → Type 0) (m : Result A ParseFault) (next : ℕ) (r : Result (Behind A) ParseFault) → r ≡ behind m next → IfOk m Q → IfOk r (λ b. Q b.value)
kept_behind Q (Ok a) next r is holds = kept_is (λ b. Q b.value) (Ok (record { value = a; next = next })) r is holds
kept_behind Q (Err f) next r is holds = kept_is (λ b. Q b.value) (Err f) r is tt

pub kept_parameter : (A : Type 0) (meaning : Value → Place → Result A ParseFault) (Q : A → Type 0) → ((value : Value) (place : Place) → IfOk (meaning value place) Q) → (tokens : List TextToken) (set : Settings) (at : ℕ) (r : Result (Behind A) ParseFault) → IsParameter A meaning tokens set at r → IfOk r (λ b. Q b.value)
kept_parameter A meaning Q holds tokens set at r (IsThen.fault f p) = tt
kept_parameter A meaning Q holds tokens set at r (IsThen.found read s p is) = kept_behind Q (meaning read.value _) read.next s is (holds read.value _)

kept_in : {A : Type 0} (Q : A → Type 0) (inside : Bool) (a : A) (place : Place) → (inside ≡ true → Q a) → IfOk (in_range inside a place) Q
kept_in Q true a place holds = holds refl
kept_in Q false a place holds = tt

kept_checked : {A : Type 0} (Q : A → Type 0) (inside : A → Bool) (value : Option A) (place : Place) → ((a : A) → inside a ≡ true → Q a) → IfOk (checked inside value place) Q
kept_checked Q inside None place holds = tt
kept_checked Q inside (Some a) place holds = kept_in Q (inside a) a place (holds a)

-- ---- ranges

and_split : (a b : Bool) → (a && b) ≡ true → (a ≡ true) × (b ≡ true)
and_split true b h = (refl, h)
and_split false b h = absurd (cc)

int_test : (a b : ℤ) → int_le a b ≡ true → a ≤ℤ b
int_test a b h = grind (arith, ints)

between : (low high z : ℤ) → is_between low high z ≡ true → (low ≤ℤ z) × (z ≤ℤ high)
between low high z h = let k = and_split (int_le low z) (int_le z high) h in (int_test low z k.0, int_test z high k.1)

amount_of : (z : ℤ) → is_between (pos 0) (pos 268435456) z ≡ true → IsAmount 268435456 z
amount_of z h = let k = between (pos 0) (pos 268435456) z h in record { low = k.0; high = omega (arith, ints, k.0, k.1) }

within_of : (z : ℤ) → is_between (neg_ℤ (pos 268435456)) (pos 268435456) z ≡ true → unsigned_abs z ≤ 268435456
within_of z h = let k = between (neg_ℤ (pos 268435456)) (pos 268435456) z h in omega (arith, ints, k.0, k.1)

vector_within : (v : V3) → is_vector_between (neg_ℤ (pos 268435456)) (pos 268435456) v ≡ true → IsVectorWithin 268435456 v
vector_within v h =
    let k = and_split (is_between (neg_ℤ (pos 268435456)) (pos 268435456) v.x) _ h in
    let m = and_split (is_between (neg_ℤ (pos 268435456)) (pos 268435456) v.y) _ k.1 in
    record { first = within_of v.x k.0; second = within_of v.y m.0; third = within_of v.z m.1 }

pub kept_point : (value : Value) (place : Place) → IfOk (point_of value place) (IsVectorWithin 268435456)
kept_point value place = kept_checked (IsVectorWithin 268435456) (is_vector_between (neg_ℤ (pos 268435456)) (pos 268435456)) (vector_in value) place vector_within

pub kept_radius : (value : Value) (place : Place) → IfOk (radius_of value place) (IsAmount 268435456)
kept_radius value place = kept_checked (IsAmount 268435456) (is_between (pos 0) (pos 268435456)) (float_in value) place amount_of

pub kept_distance : (value : Value) (place : Place) → IfOk (distance_of value place) (λ z. unsigned_abs z ≤ 268435456)
kept_distance value place = kept_checked (λ z. unsigned_abs z ≤ 268435456) (is_between (neg_ℤ (pos 268435456)) (pos 268435456)) (float_in value) place within_of

-- ---- a point that differs from another

eq_self : (z : ℤ) → int_eq z z ≡ true
eq_self z = grind (arith, ints)

all_true : (a b c : Bool) → a ≡ true → b ≡ true → c ≡ true → (a && (b && c)) ≡ true
all_true a b c x y z = rw (x, y, z) refl

same_self : (a : V3) → is_same a a ≡ true
same_self a = all_true _ _ _ (eq_self a.x) (eq_self a.y) (eq_self a.z)

not_both : (b : Bool) → not b ≡ true → b ≡ true → ⊥
not_both true n y = absurd (cc n)
not_both false n y = absurd (cc y)

differs : (a b : V3) → not (is_same a b) ≡ true → b ≢ a
differs a b h is = not_both (is_same a b) h (subst (λ (x : V3). is_same a x ≡ true) (sym is) (same_self a))

kept_differing : (a : V3) (place : Place) (m : Result V3 ParseFault) (Q : V3 → Type 0) → IfOk m Q → IfOk (differing a place m) (λ b. Q b × (b ≢ a))
kept_differing a place (Ok b) Q holds = kept_in (λ b. Q b × (b ≢ a)) (not (is_same a b)) b place (λ other. (holds, differs a b other))
kept_differing a place (Err f) Q holds = tt

pub kept_other : (a : V3) (value : Value) (place : Place) → IfOk (other_of a value place) (λ b. (IsVectorWithin 268435456 b) × (b ≢ a))
kept_other a value place = kept_differing a place (point_of value place) (IsVectorWithin 268435456) (kept_point value place)
