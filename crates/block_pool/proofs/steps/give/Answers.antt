use Rattle.std.proofs.Common.{◌∙◌, ◌≡◌, ℕ, Some, None, List, [], ◌∷◌, arith, sym, ap, subst}
use Rattle.std.specs.Prelude.{Option}
use mathlib.Core.Option.{none}
use Rattle.atomic_table.specs.Table.{Me, Allows, step, rest}
use Rattle.block_pool.specs.Rule.{IsRuled}
use Rattle.block_pool.specs.Steps.{gives}
use Rattle.block_pool.specs.declared.view.View.{View}
use Rattle.block_pool.proofs.Allowed.{give_allowed}
use Rattle.block_pool.proofs.steps.give.Goals as goal

-- the slot taken last, in which the pen lies now
handed : {K P : Type 0} (me after : Me (Option P) (View K)) (pen : P) → me.1 ≡ (0, None) ∷ [] → after ≡ (me.0, (0, Some pen) ∷ rest me.1) → after ≡ (me.0, (0, Some pen) ∷ [])
handed {K} {P} me after pen hand is = is ∙ ap (λ (c : List (ℕ × Option P)). (me.0, (0, Some pen) ∷ rest c)) hand

pub swap-requires : goal.swap-requires
swap-requires g c =
    let after = c.exchange-nothing.ensures in
    let me = handed c.args.place.now.me c.exchange-nothing.new.seat.me c.args.pen c.requires.hand after.3 in
    let Fits : Me (Option g.row.P.Denot) (View g.row.K.Denot) → Type 0 = λ m. Allows (IsRuled g.P.Ordered.in_order g.P.Ordered.knows g.P.Ordered.is_tried g.P.Ordered.was_block g.P.Ordered.knew c.args.shared.now.key) c.args.shared.now.table_id.slots c.exchange-nothing.new.seat.id m 1 (λ _. 0) (gives (step c.args.shared.now.table_id.slots 1 0 0 none) m) in (
      after.0 ∙ c.requires.table,
      omega arith,
      subst Fits (sym me) (give_allowed g.P.Ordered.in_order g.P.Ordered.knows g.P.Ordered.is_tried g.P.Ordered.was_block g.P.Ordered.knew _ _ _ _ _ c.requires.up c.requires.known c.requires.order c.requires.committed c.requires.tried),
    )
