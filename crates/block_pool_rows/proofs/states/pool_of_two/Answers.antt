use Rattle.block_pool_rows.proofs.Blank.{bytes, left}
use Rattle.block_pool_rows.proofs.states.pool_of_two.Goals as goal

pub new-requires-clause-bytes : goal.new-requires-clause-bytes
new-requires-clause-bytes c κs = let pen = rw c.in-Some.is at c.in_ok-pen.ensures in bytes c.in-Some.pen pen.0

pub new-requires-clause-list : goal.new-requires-clause-list
new-requires-clause-list c κs = let pen = rw c.in-Some.is at c.in_ok-pen.ensures in left c.in-Some.pen c.in_ok-todo.todo.items pen.0 pen.2 c.in_ok-todo.ensures.items
