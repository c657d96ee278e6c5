use Rattle.std.proofs.Common.{ap, subst, refl, ◌≡◌, ◌≤◌, true, Ok, length, ◌+◌}
use Rattle.std.specs.List.{list_all}
use Rattle.scene_lexer.specs.Tokens.{tokens_of}
use Rattle.directive_machine.specs.Expansions.{start}
use Rattle.directive_machine.specs.Read.{sources_of}
use Rattle.directive_machine.specs.PlainTokens.{is_plain_token}
use Rattle.directive_machine.specs.Sources.{Sources, counted_bytes, listed_name}
use Rattle.directive_machine.proofs.Exit.{exit}
use Rattle.directive_machine.proofs.TakenIn.{new_fault, new_stops, new_ok, misspelt_in}
use Rattle.directive_machine.proofs.PlainTexts.{comes_flat}
use Rattle.directive_machine.proofs.readings.Readings.begin_first.Goals as goal

pub returns-in_err-enter-clause-fault : goal.returns-in_err-enter-clause-fault
returns-in_err-enter-clause-fault c = exit _ _ _ c.from_residual.ensures.1 (λ some. new_fault c.args.file _ _ _ _ (c.in_err-enter.ensures.fault some))

pub returns-in_err-tokens-clause-fault : goal.returns-in_err-tokens-clause-fault
returns-in_err-tokens-clause-fault c = exit _ _ _ c.from_residual-in_err-tokens.ensures.1 (λ some. new_stops c.args.file _ _ _ _ _ c.in_ok-enter.ensures.ok (misspelt_in _ _ c.args.file _ _ c.bytes.ensures (c.in_err-tokens.ensures.fault some)))

pub returns-in_err-keep_marked-clause-fault : goal.returns-in_err-keep_marked-clause-fault
returns-in_err-keep_marked-clause-fault c = exit _ _ _ c.from_residual-in_err-keep_marked.ensures.1 (λ some. new_stops c.args.file _ _ _ _ _ c.in_ok-enter.ensures.ok (c.in_err-keep_marked.ensures.fault some))

pub returns-clause-kept : goal.returns-clause-kept
returns-clause-kept c = λ none. new_ok c.args.file _ _ _ _ _ c.in_ok-enter.ensures.ok c.in_ok-keep_marked.ensures.ok

pub returns-then-is_flat-clause-flat : goal.returns-then-is_flat-clause-flat
returns-then-is_flat-clause-flat c = λ g.
    let counts : counted_bytes (length c.args.file.name + 8 + length c.args.file.text) start (listed_name c.args.file.name (sources_of c.args.self.now)) ≡ Ok (sources_of c.enter.new.self) =
    subst (λ p. counted_bytes (length c.args.file.name + 8 + length c.args.file.text) p (listed_name c.args.file.name (sources_of c.args.self.now)) ≡ Ok (sources_of c.enter.new.self)) c.requires.place c.in_ok-enter.ensures.ok in
    let has : tokens_of 0 c.args.file.text ≡ Ok c.in_ok-tokens.tokens.items = subst (λ b. tokens_of 0 b ≡ Ok c.in_ok-tokens.tokens.items) c.bytes.ensures c.in_ok-tokens.ensures.tokens in
    let plain : list_all is_plain_token c.in_ok-tokens.tokens.items ≡ true = subst (λ k. list_all is_plain_token k ≡ true) c.deref.ensures.value (c.if-is_flat.ensures.plain refl) in
    let few : length c.in_ok-tokens.tokens.items ≤ 4194304 = subst (λ k. length k ≤ 4194304) c.deref.ensures.value (c.if-is_flat.ensures.few refl) in
    comes_flat g c.args.file (sources_of c.args.self.now) (sources_of c.enter.new.self) c.in_ok-tokens.tokens.items c.keep_flat.new.self.files.items c.keep_flat.new.self.names.items c.requires.none counts has plain few
    (ap (λ (k : Sources). k.files) c.in_ok-keep_flat.ensures.ok) (ap (λ (k : Sources). k.names) c.in_ok-keep_flat.ensures.ok)
