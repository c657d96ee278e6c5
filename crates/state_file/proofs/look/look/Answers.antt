use Rattle.std.proofs.Common.{ℕ, ◌<◌, ◌≡◌, length, ap, sym, subst, arith, slice_index, length-take}
use Rattle.state_file.proofs.Drawing.{front_is}
use Rattle.shelf.specs.Disk.{name_at}
use Rattle.state_file.proofs.Making.{ran_then}
use Rattle.state_file.proofs.look.look.Goals as goal

pub returns-clause-found : goal.returns-clause-found
returns-clause-found g c = λ d h.
    let same = ap name_at (c.synced_length.ensures.slots c.args.slot) in
    let h' = subst (λ n. g.S.Shelf.holds c.read_front.new.shelf n d) (sym same) h in
    let h1 = subst (λ n. g.S.Shelf.holds c.synced_length.new.shelf n d) same (c.read_front.ensures.contents _ d h') in
    let long = c.in_ok-size.ensures.value d h1 in
    let bytes = c.in_ok-read_front.ensures.value d h' in
    c.judge.ensures.found d (record {
      long = sym long;
      bytes =
          subst (λ o. (k : ℕ) → k < length o → slice_index o k ≡ slice_index d k)
          (sym (front_is c.known_part-known.result c.read_front.new.out _ (omega (
            arith,
            c.read_front.auto.out,
            length-take c.known_part-known.result c.args.front.now,
            c.known_part-known.ensures,
          )))) bytes;
    })

pub returns-in_err-read_front-clause-ran : goal.returns-in_err-read_front-clause-ran
returns-in_err-read_front-clause-ran g c =
    let name = name_at (g.S.Shelf.slots c.args.shelf.now c.args.slot) in
    let name' = name_at (g.S.Shelf.slots c.synced_length.new.shelf c.args.slot) in
    let before = g.S.Shelf.images c.args.shelf.now (g.S.Shelf.moment c.args.shelf.now) name in
    let between = g.S.Shelf.images c.synced_length.new.shelf (g.S.Shelf.moment c.synced_length.new.shelf) name' in
    let same = ap name_at (c.synced_length.ensures.slots c.args.slot) in
    ran_then g.S.Shelf.moment g.S.Shelf.images name name' before between c.args.shelf.now c.synced_length.new.shelf c.read_front.new.shelf same
    (λ d i. c.synced_length.ensures.crash name d (subst (λ n. g.S.Shelf.images c.synced_length.new.shelf (g.S.Shelf.moment c.synced_length.new.shelf) n d) same i))
    c.synced_length.ensures.ran
    c.read_front.ensures.ran

pub returns-clause-ran : goal.returns-clause-ran
returns-clause-ran g c =
    let name = name_at (g.S.Shelf.slots c.args.shelf.now c.args.slot) in
    let name' = name_at (g.S.Shelf.slots c.synced_length.new.shelf c.args.slot) in
    let before = g.S.Shelf.images c.args.shelf.now (g.S.Shelf.moment c.args.shelf.now) name in
    let between = g.S.Shelf.images c.synced_length.new.shelf (g.S.Shelf.moment c.synced_length.new.shelf) name' in
    let same = ap name_at (c.synced_length.ensures.slots c.args.slot) in
    ran_then g.S.Shelf.moment g.S.Shelf.images name name' before between c.args.shelf.now c.synced_length.new.shelf c.read_front.new.shelf same
    (λ d i. c.synced_length.ensures.crash name d (subst (λ n. g.S.Shelf.images c.synced_length.new.shelf (g.S.Shelf.moment c.synced_length.new.shelf) n d) same i))
    c.synced_length.ensures.ran
    c.read_front.ensures.ran
