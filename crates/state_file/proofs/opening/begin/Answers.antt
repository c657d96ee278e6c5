use Rattle.std.proofs.Common.{ℕ, ◌≡◌, List, ap, sym, subst, ◌∙◌, inl}
use Rattle.shelf.specs.Disk.{name_at}
use Rattle.state_file.specs.Frames.{layout}
use Rattle.state_file.specs.Layout.{IsOpenBlock}
use Rattle.state_file.specs.Opened.{IsReadAs, IsRefused}
use Rattle.state_file.specs.Opening.{IsMade, Ran, Read}
use Rattle.state_file.specs.Shape.{layout_of}
use Rattle.state_file.proofs.Through.{through_made, match_map, ok_map, err_map, held_ran, held_kept, through_ran, through_kept, through_known, through_read, through_refused}
use Rattle.state_file.proofs.opening.begin.Goals as goal

pub returns-in-Err-Failed-clause-ran : goal.returns-in-Err-Failed-clause-ran
returns-in-Err-Failed-clause-ran g c =
    held_ran g.S.Shelf.moment g.S.Shelf.images c.args.name.now (layout_of c.args.g c.args.key.items) c.args.shelf c.hold.new.self c.hold.ensures.time c.hold.ensures.crash

pub returns-in-Err-Failed-clause-kept : goal.returns-in-Err-Failed-clause-kept
returns-in-Err-Failed-clause-kept g c = λ r b a.
    held_kept g.S.Shelf.moment g.S.Shelf.images c.args.name.now (layout_of c.args.g c.args.key.items) b c.args.shelf c.hold.new.self c.hold.ensures.time c.hold.ensures.crash a.each

pub returns-clause-ran : goal.returns-clause-ran
returns-clause-ran g c =
    held_ran g.S.Shelf.moment g.S.Shelf.images c.args.name.now (layout_of c.args.g c.args.key.items) c.args.shelf c.hold.new.self c.hold.ensures.time c.hold.ensures.crash

pub returns-clause-kept : goal.returns-clause-kept
returns-clause-kept g c = λ r b a.
    held_kept g.S.Shelf.moment g.S.Shelf.images c.args.name.now (layout_of c.args.g c.args.key.items) b c.args.shelf c.hold.new.self c.hold.ensures.time c.hold.ensures.crash a.each

pub returns-in-Ok-hold-clause-read : goal.returns-in-Ok-hold-clause-read
returns-in-Ok-hold-clause-read g c =
    let name = c.args.name.now in
    let l = layout_of c.args.g c.args.key.items in
    let slot = c.in-Ok-hold.slot in
    let name' = name_at (g.S.Shelf.slots c.hold.new.self slot) in
    let same = ap name_at c.in-Ok-hold.ensures.held.filled in
    let l' = layout c.new-frame.result in
    let el : l' ≡ l = ap (λ x. layout_of x c.new-frame.result.key.items) c.new-frame.ensures.geometry ∙ ap (λ k. layout_of c.args.g k.items) c.new-frame.ensures.key in
    ok_map c.enter.result (λ pen. Read (g.S.Shelf.holds c.hold.new.self name') (λ d. IsReadAs c.args.resume pen d))
    (λ pen. Read (g.S.Shelf.holds c.args.shelf name) (λ d. IsReadAs c.args.resume pen d))
    (λ pen r. through_read (λ d. IsReadAs c.args.resume pen d) name name' (g.S.Shelf.holds c.args.shelf) (g.S.Shelf.holds c.hold.new.self) same
    c.hold.ensures.tells c.hold.ensures.contents r)
    c.enter.ensures.read

pub returns-in-Ok-hold-clause-refused : goal.returns-in-Ok-hold-clause-refused
returns-in-Ok-hold-clause-refused g c =
    let name = c.args.name.now in
    let l = layout_of c.args.g c.args.key.items in
    let slot = c.in-Ok-hold.slot in
    let name' = name_at (g.S.Shelf.slots c.hold.new.self slot) in
    let same = ap name_at c.in-Ok-hold.ensures.held.filled in
    let l' = layout c.new-frame.result in
    let el : l' ≡ l = ap (λ x. layout_of x c.new-frame.result.key.items) c.new-frame.ensures.geometry ∙ ap (λ k. layout_of c.args.g k.items) c.new-frame.ensures.key in
    err_map c.enter.result (λ e. IsRefused l' c.args.resume (g.S.Shelf.holds c.hold.new.self name') e.0)
    (λ e. IsRefused l c.args.resume (g.S.Shelf.holds c.args.shelf name) e.0)
    (λ e r. through_refused l l' c.args.resume name name' (g.S.Shelf.holds c.args.shelf) (g.S.Shelf.holds c.hold.new.self) e.0 same el
    c.hold.ensures.tells c.hold.ensures.contents r)
    c.enter.ensures.refused

pub returns-in-Ok-hold-clause-ran : goal.returns-in-Ok-hold-clause-ran
returns-in-Ok-hold-clause-ran g c =
    let name = c.args.name.now in
    let l = layout_of c.args.g c.args.key.items in
    let slot = c.in-Ok-hold.slot in
    let name' = name_at (g.S.Shelf.slots c.hold.new.self slot) in
    let same = ap name_at c.in-Ok-hold.ensures.held.filled in
    let l' = layout c.new-frame.result in
    let el : l' ≡ l = ap (λ x. layout_of x c.new-frame.result.key.items) c.new-frame.ensures.geometry ∙ ap (λ k. layout_of c.args.g k.items) c.new-frame.ensures.key in
    let P = IsMade l' (g.S.Shelf.images c.hold.new.self (g.S.Shelf.moment c.hold.new.self) name') in
    let Q = IsMade l (g.S.Shelf.images c.args.shelf (g.S.Shelf.moment c.args.shelf) name) in
    match_map c.enter.result (λ pen. Ran g.S.Shelf.moment g.S.Shelf.images name' P c.hold.new.self pen.shelf) (λ pen. Ran g.S.Shelf.moment g.S.Shelf.images name Q c.args.shelf pen.shelf)
    (λ e. Ran g.S.Shelf.moment g.S.Shelf.images name' P c.hold.new.self e.1) (λ e. Ran g.S.Shelf.moment g.S.Shelf.images name Q c.args.shelf e.1)
    (λ pen r. through_ran g.S.Shelf.moment g.S.Shelf.images name name' l l' c.args.shelf c.hold.new.self pen.shelf same el c.hold.ensures.time c.hold.ensures.crash r)
    (λ e r. through_ran g.S.Shelf.moment g.S.Shelf.images name name' l l' c.args.shelf c.hold.new.self e.1 same el c.hold.ensures.time c.hold.ensures.crash r)
    c.enter.ensures.ran

pub returns-in-Ok-hold-clause-kept : goal.returns-in-Ok-hold-clause-kept
returns-in-Ok-hold-clause-kept g c = λ r b a.
    let name = c.args.name.now in
    let l = layout_of c.args.g c.args.key.items in
    let slot = c.in-Ok-hold.slot in
    let name' = name_at (g.S.Shelf.slots c.hold.new.self slot) in
    let same = ap name_at c.in-Ok-hold.ensures.held.filled in
    let l' = layout c.new-frame.result in
    let el : l' ≡ l = ap (λ x. layout_of x c.new-frame.result.key.items) c.new-frame.ensures.geometry ∙ ap (λ k. layout_of c.args.g k.items) c.new-frame.ensures.key in
    match_map c.enter.result (λ pen. Ran g.S.Shelf.moment g.S.Shelf.images name' (IsOpenBlock l' b) c.hold.new.self pen.shelf) (λ pen. Ran g.S.Shelf.moment g.S.Shelf.images name (IsOpenBlock l b) c.args.shelf pen.shelf)
    (λ e. Ran g.S.Shelf.moment g.S.Shelf.images name' (IsOpenBlock l' b) c.hold.new.self e.1) (λ e. Ran g.S.Shelf.moment g.S.Shelf.images name (IsOpenBlock l b) c.args.shelf e.1)
    (λ pen k. through_kept g.S.Shelf.moment g.S.Shelf.images name name' l l' b c.args.shelf c.hold.new.self pen.shelf same el c.hold.ensures.time c.hold.ensures.crash a.each k)
    (λ e k. through_kept g.S.Shelf.moment g.S.Shelf.images name name' l l' b c.args.shelf c.hold.new.self e.1 same el c.hold.ensures.time c.hold.ensures.crash a.each k)
    (c.enter.ensures.kept r b (through_known l l' b name name' (g.S.Shelf.holds c.args.shelf) (g.S.Shelf.holds c.hold.new.self)
    (g.S.Shelf.images c.args.shelf (g.S.Shelf.moment c.args.shelf)) (g.S.Shelf.images c.hold.new.self (g.S.Shelf.moment c.hold.new.self)) same el
    c.hold.ensures.tells c.hold.ensures.crash a))

pub returns-in-Err-Failed-clause-reads : goal.returns-in-Err-Failed-clause-reads
returns-in-Err-Failed-clause-reads g c = λ d h. inl (c.hold.ensures.contents c.args.name.now d h)

pub returns-clause-reads : goal.returns-clause-reads
returns-clause-reads g c = λ d h. inl (c.hold.ensures.contents c.args.name.now d h)

pub returns-in-Ok-hold-clause-reads : goal.returns-in-Ok-hold-clause-reads
returns-in-Ok-hold-clause-reads g c =
    let name = c.args.name.now in
    let l = layout_of c.args.g c.args.key.items in
    let slot = c.in-Ok-hold.slot in
    let name' = name_at (g.S.Shelf.slots c.hold.new.self slot) in
    let same = ap name_at c.in-Ok-hold.ensures.held.filled in
    let l' = layout c.new-frame.result in
    let el : l' ≡ l = ap (λ x. layout_of x c.new-frame.result.key.items) c.new-frame.ensures.geometry ∙ ap (λ k. layout_of c.args.g k.items) c.new-frame.ensures.key in
    let half = g.S.Shelf.holds c.hold.new.self name' in
    let old = g.S.Shelf.holds c.args.shelf name in
    let on = λ (d : List ℕ) (m : IsMade l' half d). through_made l l' half old el
    (λ e i. c.hold.ensures.contents name e (subst (λ n. g.S.Shelf.holds c.hold.new.self n e) same i)) d m in
    match_map c.enter.result (λ pen. (d : List ℕ) → g.S.Shelf.holds pen.shelf name' d → IsMade l' half d)
    (λ pen. (d : List ℕ) → g.S.Shelf.holds pen.shelf name d → IsMade l old d)
    (λ e. (d : List ℕ) → g.S.Shelf.holds e.1 name' d → IsMade l' half d) (λ e. (d : List ℕ) → g.S.Shelf.holds e.1 name d → IsMade l old d)
    (λ pen r d h. on d (r d (subst (λ n. g.S.Shelf.holds pen.shelf n d) (sym same) h)))
    (λ e r d h. on d (r d (subst (λ n. g.S.Shelf.holds e.1 n d) (sym same) h)))
    c.enter.ensures.reads
