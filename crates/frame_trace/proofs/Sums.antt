-- Sums of colours.
use Rattle.std.proofs.Common.{◌≡◌, ℕ, ◌+◌, ◌≤◌, ℤ, pos, ◌+ℤ◌, List, subst, sym, add-one, arith}
use Rattle.std.proofs.lemmas.Int.{ints}
use Rattle.fix_math.specs.Matrices.{component, row_of}
use Rattle.frame_trace.specs.Pictures.{IsSum}
use Rattle.scene_model.specs.Amounts.{IsAmount, AreAmounts}

-- two colours together
abbrev pub together : List ℤ → List ℤ → List ℤ
together a b = row_of (λ i. component a i +ℤ component b i)

pub sum_starts : (IsTerm : ℕ → List ℤ → Type 0) (sum : List ℤ) → sum ≡ row_of (λ i. pos 0) → IsSum IsTerm 0 sum
sum_starts IsTerm sum is = let Q : List ℤ → Type 0 = λ s. IsSum IsTerm 0 s in subst Q (sym is) IsSum.none

pub sum_grows : (IsTerm : ℕ → List ℤ → Type 0) (n : ℕ) (sum colour all : List ℤ) → IsSum IsTerm n sum → IsTerm n colour → all ≡ together sum colour → IsSum IsTerm (n + 1) all
sum_grows IsTerm n sum colour all sums term is =
    let Q : List ℤ → Type 0 = λ s. IsSum IsTerm (n + 1) s in subst Q (sym is) (rw add-one (IsSum.more n sum colour sums term))

pub sum_ends : (IsTerm : ℕ → List ℤ → Type 0) (n all : ℕ) (sum : List ℤ) → n ≤ all → all ≤ n → IsSum IsTerm n sum → IsSum IsTerm all sum
sum_ends IsTerm n all sum low high sums = let Q : ℕ → Type 0 = λ m. IsSum IsTerm m sum in let same : n ≡ all = omega arith in subst Q same sums

one_amount : (m n most : ℕ) (a b : ℤ) → IsAmount m a → IsAmount n b → m + n ≤ most → IsAmount most (a +ℤ b)
one_amount m n most a b x y h = record { low = omega (arith, ints); high = omega (arith, ints) }

pub both_amounts : (m n most : ℕ) (a b all : List ℤ) → AreAmounts m a → AreAmounts n b → m + n ≤ most → all ≡ together a b → AreAmounts most all
both_amounts m n most a b all x y h is =
    let Q : List ℤ → Type 0 = λ c. AreAmounts most c in
    subst Q (sym is) (record {
      first = one_amount m n most (component a 0) (component b 0) x.first y.first h;
      second = one_amount m n most (component a 1) (component b 1) x.second y.second h;
      third = one_amount m n most (component a 2) (component b 2) x.third y.third h;
    })

pub same_amounts : (m n : ℕ) (c : List ℤ) → m ≡ n → AreAmounts m c → AreAmounts n c
same_amounts m n c same x = let Q : ℕ → Type 0 = λ k. AreAmounts k c in subst Q same x
