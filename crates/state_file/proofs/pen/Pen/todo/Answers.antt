use Rattle.std.proofs.Common.{◌<◌, length, ap, arith}
use Rattle.state_file.proofs.Shapes.{count_small}
use Rattle.state_file.proofs.Todo.{todo_more, same_mark}
use Rattle.state_file.proofs.pen.Pen.todo.Goals as goal

pub loop-index-preserved : goal.loop-index-preserved
loop-index-preserved g c =
    todo_more c.args.self.now.marks.items c.loop-index.index _ c.loop-index.list.items c.note_left.new.list.items
    (same_mark c.deref-mark-items.result.now c.args.self.now.marks.items c.loop-index.index _ c.deref-mark-items.ensures.value c.loop-index-test.true)
    c.in_ok-note_left.ensures.known c.in_ok-note_left.ensures.left c.loop-index.invariant

pub overflow_cast-index : goal.overflow_cast-index
overflow_cast-index g c =
    let s = count_small c.args.self.now.frame in
    let lt : c.loop-index.index < length c.deref-mark-items.result.now = c.loop-index-test.true in
    omega (arith, s, c.args.self.now.marked, ap length c.deref-mark-items.ensures.value)
