-- The value's setting, and then its place in the draft.
use Rattle.std.proofs.Common.{sym}
use Rattle.options.specs.Drafts.{applied}
use Rattle.options.specs.Readings.{setting_of, taken}
use Rattle.options.proofs.Steps.{then_ok, then_err, exact}
use Rattle.options.proofs.reading.take.Goals as goal

pub returns-in-Ok : goal.returns-in-Ok
unfolding taken
returns-in-Ok c =
    then_ok (setting_of c.args.place c.args.reading c.args.value.now) c.in-Ok.setting
    (λ setting. applied c.args.place setting c.args.value.now c.args.draft) c.apply.result
    (sym c.in-Ok.ensures.value) c.apply.ensures

pub returns-in-Err : goal.returns-in-Err
unfolding taken
returns-in-Err c =
    then_err (setting_of c.args.place c.args.reading c.args.value.now) c.in-Err.fault
    (λ setting. applied c.args.place setting c.args.value.now c.args.draft)
    (exact (setting_of c.args.place c.args.reading c.args.value.now) c.in-Err.fault c.in-Err.ensures.fits c.in-Err.ensures.value)
