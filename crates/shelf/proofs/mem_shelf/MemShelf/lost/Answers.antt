use Rattle.shelf.specs.Past.{past_of}
use Rattle.shelf.proofs.PastLemmas.{all_told}
use Rattle.shelf.proofs.mem_shelf.MemShelf.lost.Goals as goal

pub returns-clause-told : goal.returns-clause-told
returns-clause-told c = all_told c.args.self.now.files.items (past_of c.args.self.now.past) c.args.self.now.sound
