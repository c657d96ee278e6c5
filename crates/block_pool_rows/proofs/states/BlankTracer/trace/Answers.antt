use Rattle.std.proofs.Common.{◌≡◌, ◌++◌, take, vec_len, ℕ, zero, suc, ◌-◌, ◌<◌, List, replicate, length, get_or, ap, sym, ◌∙◌, refl, arith}
use Rattle.std.proofs.lemmas.List.{length-replicate}
use Rattle.block_pool.specs.Starts.{IsDrawnBlock}
use Rattle.state_file.specs.Shape.{block_bytes, spot_of}
use Rattle.state_file.specs.declared.block.DoneBlock.{DoneBlock}
use Rattle.block_pool_rows.specs.Blanks.{blank_geometry, blank_picture}
use Rattle.block_pool_rows.proofs.states.BlankTracer.trace.Goals as goal

black : (n k : ℕ) → get_or (replicate n zero) k zero ≡ zero
black zero k = refl
black (suc n) zero = refl
black (suc n) (suc k) = black n k

whole : (b : ℕ) → b < 8 → block_bytes blank_geometry b ≡ 3072
whole zero below = refl
whole (suc zero) below = refl
whole (suc (suc zero)) below = refl
whole (suc (suc (suc zero))) below = refl
whole (suc (suc (suc (suc zero)))) below = refl
whole (suc (suc (suc (suc (suc zero))))) below = refl
whole (suc (suc (suc (suc (suc (suc zero)))))) below = refl
whole (suc (suc (suc (suc (suc (suc (suc zero))))))) below = refl
whole (suc (suc (suc (suc (suc (suc (suc (suc b)))))))) below = absurd (omega arith)

blank : (b : ℕ) (block : DoneBlock) → block.index < 8 → block.pixels.items ≡ replicate 3072 0 → IsDrawnBlock blank_geometry blank_picture block
unfolding blank_picture
blank b block below is = record {
  long = ap (λ (xs : List ℕ). length xs) is ∙ (length-replicate {A = ℕ} 3072 0 ∙ sym (whole block.index below));
  true = λ k inside. ap (λ (xs : List ℕ). get_or xs k 0) is ∙ (black 3072 k ∙ sym (black 24576 (spot_of blank_geometry block.index k)));
}

pub returns-clause-pixels : goal.returns-clause-pixels
returns-clause-pixels c =
    let none : vec_len c.args.buffer ≡ 0 = c.args.buffer.ok.0 ∙ ap (λ (xs : List ℕ). length xs) c.requires.empty in
    let items = c.in-Ok.ensures.items in
    let rest : 3072 - vec_len c.args.buffer ≡ 3072 = omega arith in
    let all : c.resize.new.self.items ≡ replicate 3072 0 = items ∙ (ap (λ (xs : List ℕ). take 3072 xs ++ replicate (3072 - vec_len c.args.buffer) 0) c.requires.empty ∙ ap (λ n. replicate n 0) rest) in
    blank c.spend-index.result _ (rw c.spend-index.ensures c.requires.block) all
