use Rattle.std.proofs.Common.{◌≡◌, ℕ, List, [], ◌∷◌, get_or, Some, None, ap, sym, subst, ◌∙◌, false}
use Rattle.std.specs.Prelude.{Option}
use mathlib.Core.Option.{some, some-injective, some-ne-none}
use lib.ListN.{get_elem?}
use Rattle.atomic_table.specs.Table.{Final, Seen}
use Rattle.block_pool.specs.Rule.{IsRuled}
use Rattle.block_pool.specs.Pools.{IsGathered}
use Rattle.block_pool.specs.declared.view.Terms.{Terms}
use Rattle.block_pool.specs.declared.view.View.{View}
use Rattle.block_pool.proofs.Ends.{ends}
use Rattle.block_pool.proofs.pool.Pool.gather.Goals as goal

word_of : (l : List ℕ) (a : ℕ) → get_elem? l 0 ≡ some a → get_or l 0 0 ≡ a
word_of [] a e = absurd (some-ne-none a (sym e))
word_of (x ∷ xs) a e = some-injective x a e

module _ {K P : Type 0} (in_order : P → K → Type 0) (knows : P → ℕ → Type 0) (is_tried : P → ℕ → Type 0) (was_block knew : K → ℕ → Type 0) where
  -- the pen that comes back, with what is known of it
  at_end : (terms : Terms K) (id : ℕ) (v : View K) (words : List ℕ) (slots : List (Option P)) (drawn : ℕ) (found : Option P)
      → Final (Seen (IsRuled in_order knows is_tried was_block knew terms) id v) words slots → v.turn ≡ false → v.parts ≡ terms.callers
      → get_elem? words 0 ≡ some drawn → get_elem? slots 0 ≡ some found
      → (pen : P) × (found ≡ Some pen) × IsGathered in_order knows is_tried knew terms v pen drawn
  at_end terms id v words slots drawn found f idle all at_word at_slot =
      let e = ends in_order knows is_tried was_block knew terms f.0 id v f.1.0 f.1.1 idle all in
      let there = f.4 0 (Some e.pen) (ap (λ (hs : List _). get_elem? hs 0) e.is) in
      let same : Some e.pen ≡ found = some-injective (Some e.pen) found (sym there ∙ at_slot) in
      let count : get_or f.0.words 0 0 ≡ drawn = ap (λ ws. get_or ws 0 0) f.2 ∙ word_of words drawn at_word in
      (e.pen, sym same, subst (IsGathered in_order knows is_tried knew terms v e.pen) count e.gathered)

pen_of : {P : Type 0} (a b : P) → Some a ≡ Some b → a ≡ b
pen_of a b e = cc

none_found : {P : Type 0} (o : Option P) (pen : P) → o ≡ Some pen → o ≡ None → ⊥
none_found o pen a b = cc

pub unreachable-requires : goal.unreachable-requires
unreachable-requires g c =
    let e = at_end g.P.Ordered.in_order g.P.Ordered.knows g.P.Ordered.is_tried g.P.Ordered.was_block g.P.Ordered.knew c.args.self.table.shared.key c.args.seat.place.id c.args.seat.place.me.0
    _ _ c.word-drawn.result c.take-slot.result c.close_with-closed.ensures.values.2 c.requires.idle.idle c.requires.all c.word-drawn.ensures c.take-slot.ensures.value in
    none_found c.take-slot.result e.0 e.1 c.in_default.is

pub returns : goal.returns
returns g c =
    let e = at_end g.P.Ordered.in_order g.P.Ordered.knows g.P.Ordered.is_tried g.P.Ordered.was_block g.P.Ordered.knew c.args.self.table.shared.key c.args.seat.place.id c.args.seat.place.me.0
    _ _ c.word-drawn.result c.take-slot.result c.close_with-closed.ensures.values.2 c.requires.idle.idle c.requires.all c.word-drawn.ensures c.take-slot.ensures.value in
    let Q : g.row.P.Denot → Type 0 = λ pen. IsGathered g.P.Ordered.in_order g.P.Ordered.knows g.P.Ordered.is_tried g.P.Ordered.knew c.args.self.table.shared.key c.args.seat.place.me.0 pen c.word-drawn.result in
    subst Q (pen_of e.0 c.in-Some.pen (sym e.1 ∙ c.in-Some.is)) e.2
