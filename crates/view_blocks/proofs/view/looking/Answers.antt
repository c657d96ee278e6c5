use Rattle.std.proofs.Common.{◌≡◌, Ok, Err, sym}
use Rattle.std.proofs.lemmas.Result.{IfOk-weaker, IfErr-weaker}
use Rattle.view_blocks.specs.Views.{aimed, looking, first_view, shown}
use Rattle.view_blocks.proofs.Sizes.{look_some}
use Rattle.view_blocks.proofs.view.looking.Goals as goal

pub returns-in-Some-clause-found : goal.returns-in-Some-clause-found
returns-in-Some-clause-found c =
    let sky = c.args.camera.now.sky in
    let view = shown c.first_view-view.result in
    IfOk-weaker c.aimed.result (λ made. aimed sky c.in-Some.aim view ≡ Ok (shown made)) (λ made. looking sky c.args.camera.now.look_at (first_view c.args.camera.now) ≡ Ok (shown made))
    (λ made found. look_some sky c.in-Some.aim c.args.camera.now.look_at view (first_view c.args.camera.now) (Ok (shown made)) (sym c.in-Some.is) c.first_view-view.ensures.value found) c.aimed.ensures.found

pub returns-in-Some-clause-fault : goal.returns-in-Some-clause-fault
returns-in-Some-clause-fault c =
    let sky = c.args.camera.now.sky in
    let view = shown c.first_view-view.result in
    IfErr-weaker c.aimed.result (λ fault. aimed sky c.in-Some.aim view ≡ Err fault) (λ fault. looking sky c.args.camera.now.look_at (first_view c.args.camera.now) ≡ Err fault)
    (λ fault found. look_some sky c.in-Some.aim c.args.camera.now.look_at view (first_view c.args.camera.now) (Err fault) (sym c.in-Some.is) c.first_view-view.ensures.value found) c.aimed.ensures.fault
