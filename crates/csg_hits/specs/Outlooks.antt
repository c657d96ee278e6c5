-- What is known of a shape at a number and behind it, and how groups come by it.
use Rattle.std.specs.Prelude.{ℕ, ◌≡◌, ◌<◌, ◌≤◌, ◌-◌, ◌^◌, Bool, true, false, ◌&&◌, ◌||◌, not, Option, Some, None}
use Rattle.scene_model.specs.declared.shape.Op.{Op}
use Rattle.csg_hits.specs.declared.outlook.Outcome.{Outcome}
use Rattle.csg_hits.specs.declared.outlook.Outlook.{Outlook}
use Rattle.csg_hits.specs.declared.search.Strike.{Strike}
use Rattle.csg_hits.specs.Sides.{Sides, differ, keeps}

-- whether a group holds with one more part
abbrev pub joined : Op → Bool → Bool → Bool
joined Op.Union all part = all || part
joined Op.Merge all part = all || part
joined Op.Intersection all part = all && part
joined Op.Difference all part = all && not part

abbrev pub IsUnstruck : (ℕ → Bool) → Type 0
IsUnstruck strikes = (n : ℕ) → strikes n ≡ false

-- the least number that passes, or none
abbrev pub IsLeast : (ℕ → Bool) → Option ℕ → Type 0
IsLeast test None = (n : ℕ) → test n ≡ false
IsLeast test (Some n) = (test n ≡ true) × ((m : ℕ) → test m ≡ true → n ≤ m)

-- of a shape that is known at each number: whether it holds at t, a number before which it isn't struck again, and one before which it stays as it is. What is said of other numbers is said of those below an end
pub record IsOutlook (at : ℕ → Sides) (t end : ℕ) (outlook : Outlook) : Type 0 where
  pub holds : outlook.holds ≡ (at t).now
  pub above : t < 2 ^ 64 - 1 → t < outlook.next
  pub quiet : (s : ℕ) → t < s → s < outlook.next → s < end → IsUnstruck (at s).strikes
  pub steady : (s : ℕ) → t < s → s < outlook.change → s < end → ((at s).before ≡ (at t).now) × ((at s).now ≡ (at t).now)

-- and whether it holds before t, and the first leaf that is struck at t
pub record IsOutcome (at : ℕ → Sides) (t end : ℕ) (outcome : Outcome) : Type 0 where
  pub before : outcome.before ≡ (at t).before
  pub first : IsLeast (at t).strikes outcome.first
  pub ahead : IsOutlook at t end outcome.ahead

-- a number up to which a group stays as it is, where its first parts and one more do up to theirs
abbrev pub IsChange : Op → Bool → ℕ → Bool → ℕ → ℕ → Type 0
IsChange op all all_change part part_change change = (n : ℕ) (x y : Bool) → n < change → (n < all_change → x ≡ all) → (n < part_change → y ≡ part) → joined op x y ≡ joined op all part

-- of a group with one more part
pub record IsWith (op : Op) (all part outlook : Outlook) : Type 0 where
  pub holds : outlook.holds ≡ joined op all.holds part.holds
  pub above : (t : ℕ) → t < all.next → t < part.next → t < outlook.next
  pub low : outlook.next ≤ all.next
  pub part_low : outlook.next ≤ part.next
  pub steady : IsChange op all.holds all.change part.holds part.change outlook.change

pub record IsOutcomeWith (op : Op) (all part outcome : Outcome) : Type 0 where
  pub before : outcome.before ≡ joined op all.before part.before
  pub first : (test more : ℕ → Bool) → IsLeast test all.first → IsLeast more part.first → IsLeast (λ n. test n || more n) outcome.first
  pub ahead : IsWith op all.ahead part.ahead outcome.ahead

-- of a group, all of whose parts were joined
pub record IsGroup (op : Op) (inverse : Bool) (all outlook : Outlook) : Type 0 where
  pub holds : outlook.holds ≡ differ all.holds inverse
  pub above : all.next ≤ outlook.next
  pub next : (s : ℕ) → s < outlook.next → all.next ≤ s → (s < all.change) × (keeps op all.holds all.holds ≡ false)
  pub change : outlook.change ≡ all.change

pub record IsOutcomeGroup (op : Op) (inverse : Bool) (all outcome : Outcome) : Type 0 where
  pub before : outcome.before ≡ differ all.before inverse
  pub first : (test : ℕ → Bool) → IsLeast test all.first → IsLeast (λ n. keeps op all.before all.ahead.holds && test n) outcome.first
  pub ahead : IsGroup op inverse all.ahead outcome.ahead

-- a group of this kind that doesn't hold with its first parts doesn't hold with any further one
abbrev pub Settles : Op → Type 0
Settles op = (part : Bool) → joined op false part ≡ false

pub record IsSettled (op : Op) (end : ℕ) (all : Outlook) : Type 0 where
  pub kind : Settles op
  pub fails : all.holds ≡ false
  pub far : end ≤ all.change

-- nothing is struck from one number on and below another
abbrev pub IsQuiet : (ℕ → ℕ → Bool) → ℕ → ℕ → Type 0
IsQuiet strikes from end = (s : ℕ) → from ≤ s → s < end → IsUnstruck (strikes s)

-- the first strike from one number on and below another, and its first leaf
pub record IsFirstIn (strikes : ℕ → ℕ → Bool) (from end : ℕ) (strike : Strike) : Type 0 where
  pub low : from ≤ strike.t
  pub high : strike.t < end
  pub struck : IsLeast (strikes strike.t) (Some strike.leaf)
  pub before : IsQuiet strikes from strike.t
