use Rattle.state_file.proofs.Todo.{TodoUpTo}
use Rattle.state_file.proofs.pen.Pen.todo.Given as goal

abbrev pub invariant-loop-index : goal.invariant-loop-index
invariant-loop-index g l = TodoUpTo l.self.marks.items l.index l.list.items
