use Rattle.std.proofs.Common.{◌∙◌, ◌≡◌, ℕ, Some, List, [], ◌∷◌, arith, refl, sym, ap, subst}
use Rattle.std.specs.Prelude.{Option}
use Rattle.atomic_table.specs.Table.{Me, rest}
use Rattle.block_pool.specs.declared.view.View.{View}
use Rattle.block_pool.specs.Views.{lifted}
use Rattle.block_pool.proofs.Allowed.{lift_allowed}
use Rattle.block_pool.proofs.steps.lift.Goals as goal

pub swap-requires : goal.swap-requires
swap-requires g c = (c.requires.table, omega arith, lift_allowed g.P.Ordered.in_order g.P.Ordered.knows g.P.Ordered.is_tried g.P.Ordered.was_block g.P.Ordered.knew _ _ _ _ _ c.requires.told c.requires.turn c.requires.down c.requires.known)

-- the slot that was taken
taken : {K P : Type 0} (me after : Me (Option P) (View K)) (pen : P) → after ≡ (lifted me.0, (0, Some pen) ∷ me.1) → after.1 ≡ (0, Some pen) ∷ rest after.1
taken {K} {P} me after pen is = let Q : Me (Option P) (View K) → Type 0 = λ m. m.1 ≡ (0, Some pen) ∷ rest m.1 in subst Q (sym is) refl

abbrev hand_of : {P : Type 0} → Option P → List (ℕ × Option P) → Option P
hand_of d [] = d
hand_of d (x ∷ xs) = x.1

same_pen : {P : Type 0} (a b : Option P) (xs ys : List (ℕ × Option P)) → (0, a) ∷ xs ≡ (0, b) ∷ ys → a ≡ b
same_pen a b xs ys e = ap (hand_of a) e

pub exchange-requires : goal.exchange-requires
exchange-requires g c =
    let after = c.swap.ensures in
    let l = after.2 in
    (after.0 ∙ c.requires.table, (Some l.0, taken c.args.place.now.me c.swap.new.seat.me l.0 l.1))

pub returns-clause-pen : goal.returns-clause-pen
returns-clause-pen g c =
    let l = c.swap.ensures.2 in
    let was = taken c.args.place.now.me c.swap.new.seat.me l.0 l.1 in
    (l.0, same_pen c.exchange.result (Some l.0) _ _ (sym c.exchange.ensures.2 ∙ was), l.2 c.args.shared.now.key c.requires.told)
