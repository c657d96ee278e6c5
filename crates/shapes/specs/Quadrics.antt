-- A quadric's coefficients before and after their last digits are taken.
use Rattle.std.specs.Prelude.{ℕ, ℤ, Bool, ◌&&◌, ◌<◌, ◌^◌, unsigned_abs, nat_lt}
use Rattle.shapes.specs.Faces.{shifted}
use Rattle.shapes.specs.declared.coefficients.LongTerms.{LongTerms}

-- a number with so many digits more and so many less, rounded, is below a power of two
abbrev pub is_term_short : ℕ → ℕ → ℕ → ℤ → Bool
is_term_short bits up lost z = nat_lt (unsigned_abs (shifted up lost z)) (2 ^ bits)

abbrev pub IsTermShort : ℕ → ℕ → ℕ → ℤ → Type 0
IsTermShort bits up lost z = unsigned_abs (shifted up lost z) < 2 ^ bits

-- all ten coefficients are
abbrev pub are_terms_small : LongTerms → ℕ → Bool
are_terms_small t lost =
    (is_term_short 32 0 lost t.xx.value && (is_term_short 32 0 lost t.yy.value && is_term_short 32 0 lost t.zz.value))
    && ((is_term_short 32 0 lost t.xy.value && (is_term_short 32 0 lost t.xz.value && is_term_short 32 0 lost t.yz.value))
    && ((is_term_short 76 64 lost t.x.value && (is_term_short 76 64 lost t.y.value && is_term_short 76 64 lost t.z.value))
    && is_term_short 121 128 lost t.one.value))
