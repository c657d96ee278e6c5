use Rattle.csg_hits.specs.Ready.{leaves_of}
use Rattle.csg_hits.proofs.Extents.{boxed_at, inside_nowhere, inside_there, struck_nowhere, struck_there, value_nowhere, value_there}
use Rattle.csg_hits.proofs.Numbered.{past_in, read_in}
use Rattle.csg_hits.proofs.built.Built.bounds.Goals as goal

pub returns-in-Some-clause-value : goal.returns-in-Some-clause-value
returns-in-Some-clause-value c =
    let x = c.in-Some.object.now in
    let self = c.args.self.now in
    let leaves = leaves_of self.leaves.items in
    let r = read_in self.objects.items c.deref.result.now c.args.object x c.deref.ensures.value c.in-Some.ensures.lookup.3.0 c.in-Some.ensures.lookup.1 in
    value_there leaves self.objects.items c.args.object x r.0 r.1 (boxed_at leaves self.objects.items c.args.object x self.boxed r.0 r.1)

pub returns-in-Some-clause-inside : goal.returns-in-Some-clause-inside
returns-in-Some-clause-inside c =
    let x = c.in-Some.object.now in
    let self = c.args.self.now in
    let leaves = leaves_of self.leaves.items in
    let r = read_in self.objects.items c.deref.result.now c.args.object x c.deref.ensures.value c.in-Some.ensures.lookup.3.0 c.in-Some.ensures.lookup.1 in
    inside_there leaves self.objects.items c.args.object x r.0 r.1 (boxed_at leaves self.objects.items c.args.object x self.boxed r.0 r.1)

pub returns-in-Some-clause-struck : goal.returns-in-Some-clause-struck
returns-in-Some-clause-struck c =
    let x = c.in-Some.object.now in
    let self = c.args.self.now in
    let r = read_in self.objects.items c.deref.result.now c.args.object x c.deref.ensures.value c.in-Some.ensures.lookup.3.0 c.in-Some.ensures.lookup.1 in
    struck_there self.leaves.items self.objects.items c.args.object x r.0 r.1 (boxed_at (leaves_of self.leaves.items) self.objects.items c.args.object x self.boxed r.0 r.1)

pub returns-in-None-clause-value : goal.returns-in-None-clause-value
returns-in-None-clause-value c =
    let self = c.args.self.now in
    value_nowhere (leaves_of self.leaves.items) self.objects.items c.args.object c.whole_world.result (past_in self.objects.items c.deref.result.now c.args.object c.deref.ensures.value c.in-None.ensures.lookup.3) c.whole_world.ensures

pub returns-in-None-clause-inside : goal.returns-in-None-clause-inside
returns-in-None-clause-inside c =
    let self = c.args.self.now in
    inside_nowhere (leaves_of self.leaves.items) self.objects.items c.args.object c.whole_world.result (past_in self.objects.items c.deref.result.now c.args.object c.deref.ensures.value c.in-None.ensures.lookup.3)

pub returns-in-None-clause-struck : goal.returns-in-None-clause-struck
returns-in-None-clause-struck c =
    let self = c.args.self.now in
    struck_nowhere (leaves_of self.leaves.items) self.objects.items c.args.object c.whole_world.result (past_in self.objects.items c.deref.result.now c.args.object c.deref.ensures.value c.in-None.ensures.lookup.3)
