use Rattle.std.proofs.Common.{◌≡◌, [], ◌∷◌, ◌++◌, ◌∙◌, ap, arith}
use Rattle.state_file.specs.Frames.{layout}
use Rattle.state_file.specs.Layout.{IsLaidOut}
use Rattle.state_file.specs.Shape.{layout_of, head_of}
use Rattle.state_file.proofs.Heads.{fresh_head, fresh_blank_at}
use Rattle.state_file.proofs.Shapes.{laid_out}
use Rattle.state_file.proofs.head.fresh_file.Goals as goal

pub returns-clause-head : goal.returns-clause-head
unfolding layout_of
returns-clause-head c =
    let head = head_of c.args.frame.now.geometry c.args.frame.now.key.items in
    let ok : IsLaidOut (layout c.args.frame.now) = laid_out c.args.frame.now in
    let h = ok.head in
    let g = ok.gates in
    let x : c.append_head.new.out.items ≡ 0 ∷ head = c.in_ok-append_head.ensures ∙ ap (λ y. y ++ head) c.in_ok-push.ensures.items
    ∙ ap (λ y. (y ++ 0 ∷ []) ++ head) c.new-file.ensures.items in
    fresh_head head c.append_head.new.out.items c.resize.new.self.items c.length.result _ x c.in_ok-resize.ensures.items
    (omega (arith, c.length.ensures))

pub returns-clause-blank : goal.returns-clause-blank
unfolding layout_of
returns-clause-blank c =
    let head = head_of c.args.frame.now.geometry c.args.frame.now.key.items in
    let ok : IsLaidOut (layout c.args.frame.now) = laid_out c.args.frame.now in
    let h = ok.head in
    let g = ok.gates in
    let x : c.append_head.new.out.items ≡ 0 ∷ head = c.in_ok-append_head.ensures ∙ ap (λ y. y ++ head) c.in_ok-push.ensures.items
    ∙ ap (λ y. (y ++ 0 ∷ []) ++ head) c.new-file.ensures.items in
    fresh_blank_at head c.append_head.new.out.items c.resize.new.self.items c.length.result _ x c.in_ok-resize.ensures.items
    (omega (arith, c.length.ensures))
