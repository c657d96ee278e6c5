use Rattle.std.proofs.Common.{◌≡◌, Ok, subst, sym, refl}
use Rattle.scene_lexer.specs.Tokens.{tokens_of}
use Rattle.directive_machine.specs.Read.{sources_of}
use Rattle.directive_machine.proofs.TakenIn.{written_in, misplaced_in, misplaced_some}
use Rattle.directive_machine.proofs.readings.Readings.keep_marked.Goals as goal

pub returns-in_ok-keep-in-Ok-clause-ok : goal.returns-in_ok-keep-in-Ok-clause-ok
returns-in_ok-keep-in-Ok-clause-ok c = written_in _ _ c.args.file _ _ _ c.in-Ok.written _ refl c.requires.tokens c.in-Ok.ensures.text c.in-Ok.ensures.nests c.in-Ok.ensures.lists c.in_ok-keep-in-Ok.ensures.ok

pub returns-in-Err-clause-fault : goal.returns-in-Err-clause-fault
returns-in-Err-clause-fault c = λ some.
    let there : tokens_of c.args.number c.bytes.result.now ≡ Ok c.args.tokens.items = subst (λ b. tokens_of c.args.number b ≡ Ok c.args.tokens.items) (sym c.bytes.ensures) c.requires.tokens in
    misplaced_in c.args.number c.args.file.text c.args.file (sources_of c.args.self.now) (sources_of (record { names = c.args.self.now.names; files = c.args.self.now.files; written = c.args.self.now.written; words = c.new.new.words; size = c.args.self.now.size })) c.args.tokens.items c.in-Err.fault c.misplaced.result refl refl c.requires.tokens
    (c.in-Err.ensures.fault (misplaced_some _ c.in-Err.fault c.misplaced.result some (c.misplaced.ensures some _ there))) (c.misplaced.ensures some _ there)
