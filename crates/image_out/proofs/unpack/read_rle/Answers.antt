-- One row more, or the fault behind those that were read; and no other answer than this one.
use Rattle.std.proofs.Common.{◌≡◌, ◌<◌, sym, arith, length}
use Rattle.std.proofs.lemmas.Bool.{eqb-true, eqb-false}
use Rattle.image_out.proofs.ExactLemmas.{picture_fault_once, picture_no_fault, picture_once}
use Rattle.image_out.proofs.ReadLemmas.{long_read, picture_read, row_fault, rows_more, rows_none}
use Rattle.image_out.proofs.unpack.read_rle.Goals as goal

pub loop-row-init : goal.loop-row-init
loop-row-init c = rows_none c.args.width c.args.bytes.now _ c.new-out.ensures.items

pub loop-row-preserved : goal.loop-row-preserved
loop-row-preserved c = rows_more c.args.width c.loop-row._row _ _ _ _ _ c.loop-row.invariant c.in-Ok.ensures.read

pub returns-in-Err-clause-fault : goal.returns-in-Err-clause-fault
returns-in-Err-clause-fault c =
    row_fault c.args.width c.args.height c.loop-row._row _ _ _ c.in-Err.fault c.loop-row.invariant c.loop-row-test.true c.in-Err.ensures.fault

pub returns-in-Err-clause-every_picture : goal.returns-in-Err-clause-every_picture
returns-in-Err-clause-every_picture c triples u =
    picture_no_fault c.args.width c.args.height c.args.bytes.now triples c.in-Err.fault u
    (row_fault c.args.width c.args.height c.loop-row._row _ _ _ c.in-Err.fault c.loop-row.invariant c.loop-row-test.true c.in-Err.ensures.fault)

pub returns-in-Err-clause-every_fault : goal.returns-in-Err-clause-every_fault
returns-in-Err-clause-every_fault c fault f =
    picture_fault_once c.args.width c.args.height c.args.bytes.now c.in-Err.fault fault
    (row_fault c.args.width c.args.height c.loop-row._row _ _ _ c.in-Err.fault c.loop-row.invariant c.loop-row-test.true c.in-Err.ensures.fault) f

pub returns-then-is_empty-clause-unpacked : goal.returns-then-is_empty-clause-unpacked
returns-then-is_empty-clause-unpacked c =
    let all : c.loop-row._row ≡ c.args.height = omega (arith, c.loop-row-test.false, c.loop-row.auto._row-end) in
    picture_read c.args.width c.args.height c.loop-row._row _ _ _ c.loop-row.invariant all (eqb-true _ 0 (sym c.if-is_empty.ensures))

pub returns-then-is_empty-clause-every_picture : goal.returns-then-is_empty-clause-every_picture
returns-then-is_empty-clause-every_picture c triples u =
    let all : c.loop-row._row ≡ c.args.height = omega (arith, c.loop-row-test.false, c.loop-row.auto._row-end) in
    picture_once c.args.width c.args.height c.args.bytes.now c.loop-row.out.items triples
    (picture_read c.args.width c.args.height c.loop-row._row _ _ _ c.loop-row.invariant all (eqb-true _ 0 (sym c.if-is_empty.ensures))) u

pub returns-then-is_empty-clause-every_fault : goal.returns-then-is_empty-clause-every_fault
returns-then-is_empty-clause-every_fault c fault f =
    let all : c.loop-row._row ≡ c.args.height = omega (arith, c.loop-row-test.false, c.loop-row.auto._row-end) in
    picture_no_fault c.args.width c.args.height c.args.bytes.now c.loop-row.out.items fault
    (picture_read c.args.width c.args.height c.loop-row._row _ _ _ c.loop-row.invariant all (eqb-true _ 0 (sym c.if-is_empty.ensures))) f

pub returns-else-is_empty-clause-fault : goal.returns-else-is_empty-clause-fault
returns-else-is_empty-clause-fault c =
    let all : c.loop-row._row ≡ c.args.height = omega (arith, c.loop-row-test.false, c.loop-row.auto._row-end) in
    let some : 0 < length c.loop-row.rest.now = omega (arith, eqb-false (length c.loop-row.rest.now) 0 (sym c.if-is_empty.ensures)) in
    long_read c.args.width c.args.height c.loop-row._row _ _ _ c.loop-row.invariant all some

pub returns-else-is_empty-clause-every_picture : goal.returns-else-is_empty-clause-every_picture
returns-else-is_empty-clause-every_picture c triples u =
    picture_no_fault c.args.width c.args.height c.args.bytes.now triples _ u (returns-else-is_empty-clause-fault c)

pub returns-else-is_empty-clause-every_fault : goal.returns-else-is_empty-clause-every_fault
returns-else-is_empty-clause-every_fault c fault f =
    picture_fault_once c.args.width c.args.height c.args.bytes.now _ fault (returns-else-is_empty-clause-fault c) f
