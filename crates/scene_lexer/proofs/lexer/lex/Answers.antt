-- Each turn of the loop is one white byte, one piece or the first fault.
use Rattle.std.proofs.Common.{◌≡◌, ◌+◌, drop, slice_index, arith, sym, ap, ◌∙◌, refl, subst, ◌++◌, Err, not}
use Rattle.scene_lexer.specs.Tokens.{piece_tokens, front_of, line_after, Ascend}
use Rattle.scene_lexer.specs.Steps.{IsFound, found_tokens}
use Rattle.scene_lexer.proofs.TokensLemmas.{place_at}
use Rattle.scene_lexer.proofs.LexLemmas.{IsRead, start_read, start_within, white_read, found_within, piece_read, fault_read, end_read, ascend_none, ascend_add, ascend_more, line_feed, no_line_feed, ok-then, err-then, token_read, text_piece, kind_piece}
use Rattle.scene_lexer.proofs.lexer.lex.Goals as goal
use Rattle.scene_lexer.proofs.lexer.lex.Goals.{then-byte-eq10, else-byte-eq10}

pub bytes-init : goal.bytes-init
bytes-init c = record {
  read = start_read c.args.file c.mark_length-at.result c.args.text.now c.new-tokens.result.items c.mark_length-at.ensures c.new-tokens.ensures.items;
  within = start_within c.mark_length-at.result c.args.text.now c.mark_length-at.ensures;
  lines = omega arith;
  spans = ascend_none c.mark_length-at.result c.new-tokens.result.items c.new-tokens.ensures.items;
}

pub bytes-preserved-then-is_white : goal.bytes-preserved-then-is_white
bytes-preserved-then-is_white c =
    let next : c.if-byte-eq10.line ≡ line_after c.bytes.line (slice_index c.args.text.now c.bytes.at) =
    elim c.if-byte-eq10.branch [
      | then-byte-eq10 w ↦ line_feed c.bytes.line c.if-byte-eq10.line (slice_index c.args.text.now c.bytes.at) w.if-byte-eq10.true w.line-is
      | else-byte-eq10 w ↦ no_line_feed c.bytes.line c.if-byte-eq10.line (slice_index c.args.text.now c.bytes.at) w.if-byte-eq10.false w.line-is
    ] in
    record {
      read = white_read c.args.file c.bytes.at c.bytes.line c.if-byte-eq10.line c.bytes.tokens.items c.args.text.now (omega arith) (sym c.if-is_white.ensures) next c.bytes.invariant.read;
      within = omega arith;
      lines = elim c.if-byte-eq10.branch [ then-byte-eq10 w ↦ omega arith | else-byte-eq10 w ↦ omega arith ];
      spans = ascend_more c.bytes.at (c.bytes.at + 1) c.bytes.tokens.items c.bytes.invariant.spans (omega arith);
    }

pub overflow_add-at-in-Ok : goal.overflow_add-at-in-Ok
overflow_add-at-in-Ok c =
    let inside = found_within (place_at c.args.file c.bytes.at c.bytes.line) c.bytes.at c.args.text.now c.in-Ok.found (omega arith) (subst (λ s. IsFound (place_at c.args.file c.bytes.at c.bytes.line) s c.in-Ok.found) c.rest_of.ensures c.in-Ok.ensures.found) in
    omega (arith, inside.0)

pub overflow_add-line-in-Ok : goal.overflow_add-line-in-Ok
overflow_add-line-in-Ok c =
    let inside = found_within (place_at c.args.file c.bytes.at c.bytes.line) c.bytes.at c.args.text.now c.in-Ok.found (omega arith) (subst (λ s. IsFound (place_at c.args.file c.bytes.at c.bytes.line) s c.in-Ok.found) c.rest_of.ensures c.in-Ok.ensures.found) in
    omega (arith, inside.0, inside.1)

pub overflow_cast-at : goal.overflow_cast-at
overflow_cast-at c =
    let inside = found_within (place_at c.args.file c.bytes.at c.bytes.line) c.bytes.at c.args.text.now c.in-Ok.found (omega arith) (subst (λ s. IsFound (place_at c.args.file c.bytes.at c.bytes.line) s c.in-Ok.found) c.rest_of.ensures c.in-Ok.ensures.found) in
    omega (arith, inside.0)

pub bytes-preserved : goal.bytes-preserved
bytes-preserved c =
    let place = place_at c.args.file c.bytes.at c.bytes.line in
    let found = c.in-Ok.found in
    let is_found : IsFound place (drop c.bytes.at c.args.text.now) found = subst (λ s. IsFound place s found) c.rest_of.ensures c.in-Ok.ensures.found in
    let inside = found_within place c.bytes.at c.args.text.now found (omega arith) is_found in
    let added : c.add_token.new.tokens.items ≡ c.bytes.tokens.items ++ found_tokens place found =
    ok-then c.add_token.result _ (c.is_err.ensures.negation ∙ ap not c.if-is_err.false) c.add_token.ensures.added in
    record {
      read = subst (λ ts. IsRead c.args.file (c.bytes.at + found.length) (c.bytes.line + found.lines) ts c.args.text.now) (sym added)
          (piece_read c.args.file c.bytes.at c.bytes.line c.bytes.tokens.items c.args.text.now found (omega arith) is_found c.bytes.invariant.read);
      within = inside.0;
      lines = omega (arith, inside.1);
      spans = subst (Ascend (c.bytes.at + found.length)) (sym added)
          (ascend_add c.bytes.at (c.bytes.at + found.length) c.bytes.tokens.items place found.kind c.bytes.invariant.spans refl (omega (arith, is_found.some)));
    }

pub returns-in-Err-clause-fault : goal.returns-in-Err-clause-fault
returns-in-Err-clause-fault c = λ some.
    fault_read c.args.file c.bytes.at c.bytes.line c.bytes.tokens.items c.args.text.now c.in-Err.fault (omega arith)
    (subst (λ s. piece_tokens (place_at c.args.file c.bytes.at c.bytes.line) (front_of s) ≡ Err c.in-Err.fault) c.rest_of.ensures (c.in-Err.ensures.fault some)) c.bytes.invariant.read

pub returns-in-Err-clause-memory : goal.returns-in-Err-clause-memory
returns-in-Err-clause-memory c = λ want.
    token_read c.args.file c.bytes.at c.bytes.line c.bytes.tokens.items c.args.text.now (omega arith)
    (text_piece (place_at c.args.file c.bytes.at c.bytes.line) (drop c.bytes.at c.args.text.now) (subst (λ s. slice_index s 0 ≡ 34) c.rest_of.ensures (c.in-Err.ensures.memory want))) c.bytes.invariant.read

pub returns-then-is_err-clause-memory : goal.returns-then-is_err-clause-memory
returns-then-is_err-clause-memory c = λ want.
    let place = place_at c.args.file c.bytes.at c.bytes.line in
    let found = c.in-Ok.found in
    let is_found : IsFound place (drop c.bytes.at c.args.text.now) found = subst (λ s. IsFound place s found) c.rest_of.ensures c.in-Ok.ensures.found in
    token_read c.args.file c.bytes.at c.bytes.line c.bytes.tokens.items c.args.text.now (omega arith)
    (kind_piece place (drop c.bytes.at c.args.text.now) found is_found (err-then c.add_token.result _ (c.is_err.ensures.negation ∙ ap not c.if-is_err.true) c.add_token.ensures.memory)) c.bytes.invariant.read

pub returns-clause-tokens : goal.returns-clause-tokens
returns-clause-tokens c = end_read c.args.file c.bytes.at c.bytes.line c.bytes.tokens.items c.args.text.now (omega arith) c.bytes.invariant.read
