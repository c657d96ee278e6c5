use Rattle.std.proofs.Common.{ℕ, ◌+◌, List, ap, sym, subst, arith, ◌∙◌, inl}
use Rattle.shelf.specs.Disk.{name_at}
use Rattle.state_file.specs.Frames.{layout}
use Rattle.state_file.specs.Layout.{IsOpenBlock}
use Rattle.state_file.specs.Opening.{IsMade}
use Rattle.state_file.proofs.Looked.{ran_weaker, made_of, not_new, same_found, ran_now}
use Rattle.state_file.proofs.Making.{ran_then}
use Rattle.state_file.proofs.Shapes.{laid_out}
use Rattle.state_file.proofs.attach.attach.Goals as goal

pub body_of-requires : goal.body_of-requires
body_of-requires g c =
    let ok = laid_out c.args.frame.now in
    omega (arith, ok.gates, ok.wide, c.requires.long)

pub make-requires-clause-long : goal.make-requires-clause-long
make-requires-clause-long g c = c.body_of.ensures.long ∙ c.requires.long

pub make-requires-clause-head : goal.make-requires-clause-head
make-requires-clause-head g c = λ k hk.
    let ok = laid_out c.args.frame.now in
    c.body_of.ensures.bytes k (omega (arith, ok.head, ok.gates, ok.some, c.requires.long, c.body_of.ensures.long)) ∙ c.requires.head k hk

pub make-requires-clause-blank : goal.make-requires-clause-blank
make-requires-clause-blank g c = λ k low high. c.body_of.ensures.bytes k high ∙ c.requires.blank (1 + k) (omega arith)

pub returns-in_err-size-clause-ran : goal.returns-in_err-size-clause-ran
returns-in_err-size-clause-ran g c =
    let l = layout c.args.frame.now in
    let name = name_at (g.S.Shelf.slots c.args.shelf.now c.args.slot) in
    let before = g.S.Shelf.images c.args.shelf.now (g.S.Shelf.moment c.args.shelf.now) name in
    ran_weaker g.S.Shelf.moment g.S.Shelf.images name before (IsMade l before) c.args.shelf.now c.look.new.shelf (λ d i. inl i) c.look.ensures.ran

pub returns-in_err-size-clause-kept : goal.returns-in_err-size-clause-kept
returns-in_err-size-clause-kept g c = λ r b a.
    let l = layout c.args.frame.now in
    let name = name_at (g.S.Shelf.slots c.args.shelf.now c.args.slot) in
    let before = g.S.Shelf.images c.args.shelf.now (g.S.Shelf.moment c.args.shelf.now) name in
    ran_weaker g.S.Shelf.moment g.S.Shelf.images name before (IsOpenBlock l b) c.args.shelf.now c.look.new.shelf a.each c.look.ensures.ran

pub returns-in-Other-clause-ran : goal.returns-in-Other-clause-ran
returns-in-Other-clause-ran g c =
    let l = layout c.args.frame.now in
    let name = name_at (g.S.Shelf.slots c.args.shelf.now c.args.slot) in
    let before = g.S.Shelf.images c.args.shelf.now (g.S.Shelf.moment c.args.shelf.now) name in
    ran_weaker g.S.Shelf.moment g.S.Shelf.images name before (IsMade l before) c.args.shelf.now c.look.new.shelf (λ d i. inl i) c.look.ensures.ran

pub returns-in-Other-clause-kept : goal.returns-in-Other-clause-kept
returns-in-Other-clause-kept g c = λ r b a.
    let l = layout c.args.frame.now in
    let name = name_at (g.S.Shelf.slots c.args.shelf.now c.args.slot) in
    let before = g.S.Shelf.images c.args.shelf.now (g.S.Shelf.moment c.args.shelf.now) name in
    ran_weaker g.S.Shelf.moment g.S.Shelf.images name before (IsOpenBlock l b) c.args.shelf.now c.look.new.shelf a.each c.look.ensures.ran

pub returns-in_err-make-in-New-clause-ran : goal.returns-in_err-make-in-New-clause-ran
returns-in_err-make-in-New-clause-ran g c =
    let l = layout c.args.frame.now in
    let name = name_at (g.S.Shelf.slots c.args.shelf.now c.args.slot) in
    let before = g.S.Shelf.images c.args.shelf.now (g.S.Shelf.moment c.args.shelf.now) name in
    let name' = name_at (g.S.Shelf.slots c.look.new.shelf c.args.slot) in
    let between = g.S.Shelf.images c.look.new.shelf (g.S.Shelf.moment c.look.new.shelf) name' in
    let same = ap name_at (c.look.ensures.slots c.args.slot) in
    let sub = λ (d : List ℕ) (i : between d). c.look.ensures.crash name d (subst (λ n. g.S.Shelf.images c.look.new.shelf (g.S.Shelf.moment c.look.new.shelf) n d) same i) in
    ran_then g.S.Shelf.moment g.S.Shelf.images name name' (IsMade l before) (IsMade l between) c.args.shelf.now c.look.new.shelf c.make.new.shelf same
    (λ d m. made_of l between before sub d m)
    (ran_weaker g.S.Shelf.moment g.S.Shelf.images name before (IsMade l before) c.args.shelf.now c.look.new.shelf (λ d i. inl i) c.look.ensures.ran)
    c.make.ensures.ran

pub returns-in_err-make-in-New-clause-kept : goal.returns-in_err-make-in-New-clause-kept
returns-in_err-make-in-New-clause-kept g c = λ r b a.
    let l = layout c.args.frame.now in
    let name = name_at (g.S.Shelf.slots c.args.shelf.now c.args.slot) in
    let before = g.S.Shelf.images c.args.shelf.now (g.S.Shelf.moment c.args.shelf.now) name in
    absurd (not_new (g.S.Shelf.holds c.look.new.shelf name) (g.S.Shelf.holds c.args.shelf.now name) before l (laid_out c.args.frame.now) b c.args.resume
    c.in_ok-size.field-0 c.in-New.size c.in-New.gate r a (c.look.ensures.tells name) (c.look.ensures.contents name)
    (g.S.Shelf.reads_an_image c.args.shelf.now name) c.in_ok-size.ensures.found c.in-New.is)

pub returns-in_ok-make-in-New-clause-ran : goal.returns-in_ok-make-in-New-clause-ran
returns-in_ok-make-in-New-clause-ran g c =
    let l = layout c.args.frame.now in
    let name = name_at (g.S.Shelf.slots c.args.shelf.now c.args.slot) in
    let before = g.S.Shelf.images c.args.shelf.now (g.S.Shelf.moment c.args.shelf.now) name in
    let name' = name_at (g.S.Shelf.slots c.look.new.shelf c.args.slot) in
    let between = g.S.Shelf.images c.look.new.shelf (g.S.Shelf.moment c.look.new.shelf) name' in
    let same = ap name_at (c.look.ensures.slots c.args.slot) in
    let sub = λ (d : List ℕ) (i : between d). c.look.ensures.crash name d (subst (λ n. g.S.Shelf.images c.look.new.shelf (g.S.Shelf.moment c.look.new.shelf) n d) same i) in
    ran_then g.S.Shelf.moment g.S.Shelf.images name name' (IsMade l before) (IsMade l between) c.args.shelf.now c.look.new.shelf c.make.new.shelf same
    (λ d m. made_of l between before sub d m)
    (ran_weaker g.S.Shelf.moment g.S.Shelf.images name before (IsMade l before) c.args.shelf.now c.look.new.shelf (λ d i. inl i) c.look.ensures.ran)
    c.make.ensures.ran

pub returns-in_ok-make-in-New-clause-kept : goal.returns-in_ok-make-in-New-clause-kept
returns-in_ok-make-in-New-clause-kept g c = λ r b a.
    let l = layout c.args.frame.now in
    let name = name_at (g.S.Shelf.slots c.args.shelf.now c.args.slot) in
    let before = g.S.Shelf.images c.args.shelf.now (g.S.Shelf.moment c.args.shelf.now) name in
    absurd (not_new (g.S.Shelf.holds c.look.new.shelf name) (g.S.Shelf.holds c.args.shelf.now name) before l (laid_out c.args.frame.now) b c.args.resume
    c.in_ok-size.field-0 c.in-New.size c.in-New.gate r a (c.look.ensures.tells name) (c.look.ensures.contents name)
    (g.S.Shelf.reads_an_image c.args.shelf.now name) c.in_ok-size.ensures.found c.in-New.is)

pub returns-in_err-load-in-Same-clause-ran : goal.returns-in_err-load-in-Same-clause-ran
returns-in_err-load-in-Same-clause-ran g c =
    let l = layout c.args.frame.now in
    let name = name_at (g.S.Shelf.slots c.args.shelf.now c.args.slot) in
    let before = g.S.Shelf.images c.args.shelf.now (g.S.Shelf.moment c.args.shelf.now) name in
    let name' = name_at (g.S.Shelf.slots c.look.new.shelf c.args.slot) in
    let between = g.S.Shelf.images c.look.new.shelf (g.S.Shelf.moment c.look.new.shelf) name' in
    let same = ap name_at (c.look.ensures.slots c.args.slot) in
    let sub = λ (d : List ℕ) (i : between d). c.look.ensures.crash name d (subst (λ n. g.S.Shelf.images c.look.new.shelf (g.S.Shelf.moment c.look.new.shelf) n d) same i) in
    ran_weaker g.S.Shelf.moment g.S.Shelf.images name before (IsMade l before) c.args.shelf.now c.load.new.shelf (λ d i. inl i)
    (ran_then g.S.Shelf.moment g.S.Shelf.images name name' before between c.args.shelf.now c.look.new.shelf c.load.new.shelf same sub c.look.ensures.ran c.load.ensures.ran)

pub returns-in_err-load-in-Same-clause-kept : goal.returns-in_err-load-in-Same-clause-kept
returns-in_err-load-in-Same-clause-kept g c = λ r b a.
    let l = layout c.args.frame.now in
    let name = name_at (g.S.Shelf.slots c.args.shelf.now c.args.slot) in
    let before = g.S.Shelf.images c.args.shelf.now (g.S.Shelf.moment c.args.shelf.now) name in
    let name' = name_at (g.S.Shelf.slots c.look.new.shelf c.args.slot) in
    let between = g.S.Shelf.images c.look.new.shelf (g.S.Shelf.moment c.look.new.shelf) name' in
    let same = ap name_at (c.look.ensures.slots c.args.slot) in
    let sub = λ (d : List ℕ) (i : between d). c.look.ensures.crash name d (subst (λ n. g.S.Shelf.images c.look.new.shelf (g.S.Shelf.moment c.look.new.shelf) n d) same i) in
    ran_weaker g.S.Shelf.moment g.S.Shelf.images name before (IsOpenBlock l b) c.args.shelf.now c.load.new.shelf a.each
    (ran_then g.S.Shelf.moment g.S.Shelf.images name name' before between c.args.shelf.now c.look.new.shelf c.load.new.shelf same sub c.look.ensures.ran c.load.ensures.ran)

pub returns-in_ok-load-in-Same-clause-ran : goal.returns-in_ok-load-in-Same-clause-ran
returns-in_ok-load-in-Same-clause-ran g c =
    let l = layout c.args.frame.now in
    let name = name_at (g.S.Shelf.slots c.args.shelf.now c.args.slot) in
    let before = g.S.Shelf.images c.args.shelf.now (g.S.Shelf.moment c.args.shelf.now) name in
    let name' = name_at (g.S.Shelf.slots c.look.new.shelf c.args.slot) in
    let between = g.S.Shelf.images c.look.new.shelf (g.S.Shelf.moment c.look.new.shelf) name' in
    let same = ap name_at (c.look.ensures.slots c.args.slot) in
    let sub = λ (d : List ℕ) (i : between d). c.look.ensures.crash name d (subst (λ n. g.S.Shelf.images c.look.new.shelf (g.S.Shelf.moment c.look.new.shelf) n d) same i) in
    ran_weaker g.S.Shelf.moment g.S.Shelf.images name before (IsMade l before) c.args.shelf.now c.load.new.shelf (λ d i. inl i)
    (ran_then g.S.Shelf.moment g.S.Shelf.images name name' before between c.args.shelf.now c.look.new.shelf c.load.new.shelf same sub c.look.ensures.ran c.load.ensures.ran)

pub returns-in_ok-load-in-Same-clause-kept : goal.returns-in_ok-load-in-Same-clause-kept
returns-in_ok-load-in-Same-clause-kept g c = λ r b a.
    let l = layout c.args.frame.now in
    let name = name_at (g.S.Shelf.slots c.args.shelf.now c.args.slot) in
    let before = g.S.Shelf.images c.args.shelf.now (g.S.Shelf.moment c.args.shelf.now) name in
    let name' = name_at (g.S.Shelf.slots c.look.new.shelf c.args.slot) in
    let between = g.S.Shelf.images c.look.new.shelf (g.S.Shelf.moment c.look.new.shelf) name' in
    let same = ap name_at (c.look.ensures.slots c.args.slot) in
    let sub = λ (d : List ℕ) (i : between d). c.look.ensures.crash name d (subst (λ n. g.S.Shelf.images c.look.new.shelf (g.S.Shelf.moment c.look.new.shelf) n d) same i) in
    ran_weaker g.S.Shelf.moment g.S.Shelf.images name before (IsOpenBlock l b) c.args.shelf.now c.load.new.shelf a.each
    (ran_then g.S.Shelf.moment g.S.Shelf.images name name' before between c.args.shelf.now c.look.new.shelf c.load.new.shelf same sub c.look.ensures.ran c.load.ensures.ran)

pub returns-in_ok-load-in-Same-clause-read : goal.returns-in_ok-load-in-Same-clause-read
returns-in_ok-load-in-Same-clause-read g c = λ d h.
    let name = name_at (g.S.Shelf.slots c.args.shelf.now c.args.slot) in
    let same = ap name_at (c.look.ensures.slots c.args.slot) in
    let w = c.look.ensures.tells name d h in
    let f = same_found (layout c.args.frame.now) c.args.resume w.0 c.in_ok-size.field-0 (c.in_ok-size.ensures.found w.0 w.1) c.in-Same.is in
    let e = c.in_ok-load-in-Same.ensures.value w.0 (subst (λ n. g.S.Shelf.holds c.look.new.shelf n w.0) (sym same) w.1) in
    (w.0, c.look.ensures.contents name w.0 w.1, (f.0, f.1, e))

pub returns-in_err-size-clause-reads : goal.returns-in_err-size-clause-reads
returns-in_err-size-clause-reads g c = λ d h. inl (c.look.ensures.contents (name_at (g.S.Shelf.slots c.args.shelf.now c.args.slot)) d h)

pub returns-in-Other-clause-reads : goal.returns-in-Other-clause-reads
returns-in-Other-clause-reads g c = λ d h. inl (c.look.ensures.contents (name_at (g.S.Shelf.slots c.args.shelf.now c.args.slot)) d h)

pub returns-in_err-load-in-Same-clause-reads : goal.returns-in_err-load-in-Same-clause-reads
returns-in_err-load-in-Same-clause-reads g c = λ d h.
    let name = name_at (g.S.Shelf.slots c.args.shelf.now c.args.slot) in
    inl (c.look.ensures.contents name d (c.load.ensures.contents name d h))

pub returns-in_ok-load-in-Same-clause-reads : goal.returns-in_ok-load-in-Same-clause-reads
returns-in_ok-load-in-Same-clause-reads g c = λ d h.
    let name = name_at (g.S.Shelf.slots c.args.shelf.now c.args.slot) in
    inl (c.look.ensures.contents name d (c.load.ensures.contents name d h))

pub returns-in_err-make-in-New-clause-reads : goal.returns-in_err-make-in-New-clause-reads
returns-in_err-make-in-New-clause-reads g c = λ d h.
    let l = layout c.args.frame.now in
    let name = name_at (g.S.Shelf.slots c.args.shelf.now c.args.slot) in
    let name' = name_at (g.S.Shelf.slots c.look.new.shelf c.args.slot) in
    let between = g.S.Shelf.images c.look.new.shelf (g.S.Shelf.moment c.look.new.shelf) name' in
    let same = ap name_at (c.look.ensures.slots c.args.slot) in
    let image = subst (λ n. g.S.Shelf.images c.make.new.shelf (g.S.Shelf.moment c.make.new.shelf) n d) (sym same)
    (g.S.Shelf.reads_an_image c.make.new.shelf name d h) in
    made_of l between (g.S.Shelf.holds c.args.shelf.now name)
    (λ e i. c.look.ensures.contents name e (c.in_ok-size.ensures.synced e
    (subst (λ n. g.S.Shelf.images c.look.new.shelf (g.S.Shelf.moment c.look.new.shelf) n e) same i))) d
    (ran_now g.S.Shelf.moment g.S.Shelf.images name' (IsMade l between) c.look.new.shelf c.make.new.shelf c.make.ensures.ran d image)

pub returns-in_ok-make-in-New-clause-reads : goal.returns-in_ok-make-in-New-clause-reads
returns-in_ok-make-in-New-clause-reads g c = λ d h.
    let l = layout c.args.frame.now in
    let name = name_at (g.S.Shelf.slots c.args.shelf.now c.args.slot) in
    let name' = name_at (g.S.Shelf.slots c.look.new.shelf c.args.slot) in
    let between = g.S.Shelf.images c.look.new.shelf (g.S.Shelf.moment c.look.new.shelf) name' in
    let same = ap name_at (c.look.ensures.slots c.args.slot) in
    let image = subst (λ n. g.S.Shelf.images c.make.new.shelf (g.S.Shelf.moment c.make.new.shelf) n d) (sym same)
    (g.S.Shelf.reads_an_image c.make.new.shelf name d h) in
    made_of l between (g.S.Shelf.holds c.args.shelf.now name)
    (λ e i. c.look.ensures.contents name e (c.in_ok-size.ensures.synced e
    (subst (λ n. g.S.Shelf.images c.look.new.shelf (g.S.Shelf.moment c.look.new.shelf) n e) same i))) d
    (ran_now g.S.Shelf.moment g.S.Shelf.images name' (IsMade l between) c.look.new.shelf c.make.new.shelf c.make.ensures.ran d image)
