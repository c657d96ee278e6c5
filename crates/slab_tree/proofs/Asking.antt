-- A search that goes on, and on again.
use Rattle.std.proofs.Common.{Bool, true, subst, ◌∙◌, ◌≡◌, ⊎_elim, inr, arith}
use Rattle.shapes.specs.declared.ray.Ray.{Ray}
use Rattle.csg_hits.specs.Pieces.{Pieces, any_strikes}
use Rattle.csg_hits.specs.Surfaces.{leaf_on}
use Rattle.csg_hits.specs.declared.asking.Found.{Found}
use Rattle.csg_hits.specs.declared.asking.Search.{Search}
use Rattle.csg_hits.specs.Searches.{IsFurther, IsStrike}

strike_over : (s : Pieces) (a b : Search) (found : Found) → IsFurther s a b → IsStrike s b found → IsStrike s a found
strike_over s a b found f h = record {
  low = omega (arith, h.low, f.from);
  high = omega (arith, h.high, f.end);
  struck = let P : Ray → Type 0 = λ x. any_strikes (leaf_on s.leaves x found.strike.t) a.shadow found.object found.strike.leaf s.pieces ≡ true in
      let Q : Bool → Type 0 = λ x. any_strikes (leaf_on s.leaves b.path.ray found.strike.t) x found.object found.strike.leaf s.pieces ≡ true in
      subst P f.ray (subst Q f.shadow h.struck);
}

pub further : (s : Pieces) (a b c : Search) → IsFurther s a b → IsFurther s b c → IsFurther s a c
further s a b c f g = record {
  ray = g.ray ∙ f.ray;
  from = g.from ∙ f.from;
  shadow = g.shadow ∙ f.shadow;
  end = omega (arith, f.end, g.end);
  asked = λ piece h. g.asked piece (f.asked piece h);
  none = λ e. let k = g.none e in let m = f.none k.0 in (m.0, k.1 ∙ m.1);
  found = λ x e. ⊎_elim (λ k. f.found x k) (λ k. inr (strike_over s a b x f k)) (g.found x e);
}
