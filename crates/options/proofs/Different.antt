-- The names of a run's frames are all different.
use Rattle.std.proofs.Common.{◌≡◌, ◌≢◌, ◌+◌, ◌-◌, ◌/◌, ◌<◌, ◌≤◌, ◌^◌, ℕ, zero, suc, Bool, true, false, List, ◌++◌, length, get_or, drop, replicate, codes, sym, ap, ◌∙◌, arith, refl}
use Rattle.std.specs.Prelude.{if◌then◌else◌}
use Rattle.std.specs.Fmt.{decimal}
use Rattle.std.specs.Int.Digits.{digits_of}
use Rattle.std.proofs.lemmas.Fmt.{first_decimal, decimal_injective, decimal-digits_of}
use Rattle.std.proofs.lemmas.Int.Digits.{length-digits_of_step}
use Rattle.std.proofs.lemmas.List.{append_cancel_left, append_cancel_right, length-append, length-replicate, length-map}
use Rattle.options.specs.declared.plan.Plan.{Plan}
use Rattle.options.specs.Names.{stem_of, extension_of}
use Rattle.options.specs.Plans.{IsPlan}
use Rattle.options.specs.Frames.{IsFrame, padded, picture_name, state_name}

-- zeros before digits that don't begin with one
strip : (a b : ℕ) (s t : List ℕ) → 48 < get_or s 0 0 → 48 < get_or t 0 0 → replicate a 48 ++ s ≡ replicate b 48 ++ t → s ≡ t
strip zero zero s t hs ht e = e
strip zero (suc b) s t hs ht e = absurd (omega (arith, hs, ap (λ l. get_or l 0 0) e))
strip (suc a) zero s t hs ht e = absurd (omega (arith, ht, ap (λ l. get_or l 0 0) e))
strip (suc a) (suc b) s t hs ht e = strip a b s t hs ht (ap (drop 1) e)

padded_same : (last f g : ℕ) → 0 < f → f < 2 ^ 64 → 0 < g → g < 2 ^ 64 → padded last f ≡ padded last g → f ≡ g
padded_same last f g hf mf hg mg e =
    decimal_injective f g mf mg (strip (length (decimal last) - length (decimal f)) (length (decimal last) - length (decimal g)) (decimal f) (decimal g) (first_decimal f hf mf) (first_decimal g hg mg) e)

-- a name with these parts
joined_same : (stem extension : List ℕ) (last f g : ℕ) → 0 < f → f < 2 ^ 64 → 0 < g → g < 2 ^ 64
    → stem ++ (padded last f ++ extension) ≡ stem ++ (padded last g ++ extension) → f ≡ g
joined_same stem extension last f g hf mf hg mg e =
    padded_same last f g hf mf hg mg (append_cancel_right (padded last f) (padded last g) extension (append_cancel_left stem (padded last f ++ extension) (padded last g ++ extension) e))

-- a greater number has no fewer digits
digits_monotone : (fuel f g : ℕ) → g ≤ fuel → f ≤ g → length (digits_of 10 f) ≤ length (digits_of 10 g)
digits_monotone fuel zero g hg le = omega arith
digits_monotone zero (suc f) g hg le = absurd (omega arith)
digits_monotone (suc fuel) (suc f) g hg le =
    omega (
      arith,
      length-digits_of_step 10 (suc f) (omega arith) (omega arith),
      length-digits_of_step 10 g (omega arith) (omega arith),
      digits_monotone fuel (suc f / 10) (g / 10) (omega arith) (omega arith),
    )

abbrev digit : ℕ → ℕ
digit d = 48 + d

decimal_long : (n : ℕ) → 0 < n → n < 2 ^ 64 → length (decimal n) ≡ length (digits_of 10 n)
decimal_long n some small = ap length (decimal-digits_of n some small) ∙ length-map (digits_of 10 n) digit

padded_long : (last f : ℕ) → 0 < f → f ≤ last → last < 2 ^ 64 → length (padded last f) ≡ length (decimal last)
padded_long last f some le small =
    let zero : ℕ = 48 in
    let first = decimal_long f some (omega arith) in
    let second = decimal_long last (omega arith) small in
    omega (
      arith,
      first,
      second,
      digits_monotone last f last (omega arith) le,
      length-append (replicate (length (decimal last) - length (decimal f)) zero) (decimal f),
      length-replicate (length (decimal last) - length (decimal f)) zero,
    )

same_by : (animated : Bool) (numbered : ℕ → List ℕ) (name : List ℕ) (f g : ℕ) → (numbered f ≡ numbered g → f ≡ g) → (animated ≡ false → f ≡ g)
    → (if animated then numbered f else name) ≡ (if animated then numbered g else name) → f ≡ g
same_by true numbered name f g by_number single e = by_number e
same_by false numbered name f g by_number single e = single refl

long_by : (animated : Bool) (numbered : ℕ → List ℕ) (name : List ℕ) (f g : ℕ) → length (numbered f) ≡ length (numbered g)
    → length (if animated then numbered f else name) ≡ length (if animated then numbered g else name)
long_by true numbered name f g e = e
long_by false numbered name f g e = refl

single_frame : (plan : Plan) (f : ℕ) → IsPlan plan → IsFrame plan f → plan.animated ≡ false → f ≡ 1
single_frame plan f p hf one = omega (arith, (p.single one).0, (p.single one).1, p.from, p.to, hf.0, hf.1)

joined_long : (stem extension : List ℕ) (last f : ℕ) → 0 < f → f ≤ last → last < 2 ^ 64
    → length (stem ++ (padded last f ++ extension)) ≡ length stem + (length (decimal last) + length extension)
joined_long stem extension last f some le small =
    omega (arith, length-append stem (padded last f ++ extension), length-append (padded last f) extension, padded_long last f some le small)

-- different frames have pictures of different names
pub same_picture : (plan : Plan) (f g : ℕ) → IsPlan plan → IsFrame plan f → IsFrame plan g → picture_name plan f ≡ picture_name plan g → f ≡ g
same_picture plan f g p hf hg e =
    same_by plan.animated (λ n. stem_of plan.output ++ (padded plan.last n ++ extension_of plan.output)) plan.output f g
    (λ same. joined_same (stem_of plan.output) (extension_of plan.output) plan.last f g
    (omega (arith, p.first, p.from, hf.0)) (omega (arith, p.to, p.last, hf.1)) (omega (arith, p.first, p.from, hg.0)) (omega (arith, p.to, p.last, hg.1)) same)
    (λ one. single_frame plan f p hf one ∙ sym (single_frame plan g p hg one)) e

pub same_state : (plan : Plan) (f g : ℕ) → IsPlan plan → IsFrame plan f → IsFrame plan g → state_name plan f ≡ state_name plan g → f ≡ g
same_state plan f g p hf hg e = same_picture plan f g p hf hg (append_cancel_right (picture_name plan f) (picture_name plan g) (codes ".pov-state") e)

picture_long : (plan : Plan) (f g : ℕ) → IsPlan plan → IsFrame plan f → IsFrame plan g → length (picture_name plan f) ≡ length (picture_name plan g)
picture_long plan f g p hf hg =
    long_by plan.animated (λ n. stem_of plan.output ++ (padded plan.last n ++ extension_of plan.output)) plan.output f g
    (joined_long (stem_of plan.output) (extension_of plan.output) plan.last f (omega (arith, p.first, p.from, hf.0)) (omega (arith, p.to, hf.1)) (omega (arith, p.last))
    ∙ sym (joined_long (stem_of plan.output) (extension_of plan.output) plan.last g (omega (arith, p.first, p.from, hg.0)) (omega (arith, p.to, hg.1)) (omega (arith, p.last))))

-- no state file is named as a picture
pub state_apart : (plan : Plan) (f g : ℕ) → IsPlan plan → IsFrame plan f → IsFrame plan g → state_name plan f ≢ picture_name plan g
state_apart plan f g p hf hg = λ e.
    absurd (omega (arith, ap length e, length-append (picture_name plan f) (codes ".pov-state"), picture_long plan f g p hf hg))
