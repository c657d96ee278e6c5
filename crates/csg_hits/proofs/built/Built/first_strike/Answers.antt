use Rattle.std.proofs.Common.{List, Some, sym, subst, ◌∙◌}
use Rattle.csg_hits.specs.declared.ready.ReadyLeaf.{ReadyLeaf}
use Rattle.csg_hits.specs.Outlooks.{IsFirstIn, IsQuiet}
use Rattle.csg_hits.specs.Ready.{leaves_of}
use Rattle.csg_hits.specs.Surfaces.{shape_on}
use Rattle.csg_hits.proofs.Firsts.{same_first, where_none}
use Rattle.csg_hits.proofs.Numbered.{counted, owned, read_in}
use Rattle.csg_hits.proofs.built.Built.first_strike.Goals as goal

pub returns-in_err-strike-clause-none : goal.returns-in_err-strike-clause-none
returns-in_err-strike-clause-none c =
    let x = c.in_ok-piece.piece.now in
    let leaves = c.args.self.now.leaves.items in
    let pieces = c.args.self.now.pieces.items in
    let search = c.args.search.now in
    let r = read_in pieces c.deref.result.now c.args.piece x c.deref.ensures.value c.in_ok-piece.ensures.lookup.3.0 c.in_ok-piece.ensures.lookup.1 in
    let F : List ReadyLeaf → Type 0 = λ ls. IsQuiet (λ t. (shape_on (leaves_of ls) c.args.search.now.path.ray x.shape t).strikes) c.args.search.now.from c.args.search.now.path.end in
    let quiet : F leaves = subst F c.deref-2.ensures.value c.in_err-strike.ensures.none in
    where_none c.from_residual-in_err-strike.result _
    (λ t a b n. counted (leaves_of leaves) pieces search.path.ray search.shadow c.args.piece x r.0 r.1 (sym c.counts.ensures ∙ c.if-not-counts.false) t n ∙ quiet t a b n)

pub returns-clause-object : goal.returns-clause-object
returns-clause-object c =
    let x = c.in_ok-piece.piece.now in
    let pieces = c.args.self.now.pieces.items in
    let r = read_in pieces c.deref.result.now c.args.piece x c.deref.ensures.value c.in_ok-piece.ensures.lookup.3.0 c.in_ok-piece.ensures.lookup.1 in
    owned (leaves_of c.args.self.now.leaves.items) pieces c.args.piece x r.0 r.1

pub returns-clause-found : goal.returns-clause-found
returns-clause-found c =
    let x = c.in_ok-piece.piece.now in
    let leaves = c.args.self.now.leaves.items in
    let pieces = c.args.self.now.pieces.items in
    let search = c.args.search.now in
    let r = read_in pieces c.deref.result.now c.args.piece x c.deref.ensures.value c.in_ok-piece.ensures.lookup.3.0 c.in_ok-piece.ensures.lookup.1 in
    let F : List ReadyLeaf → Type 0 = λ ls. IsFirstIn (λ t. (shape_on (leaves_of ls) c.args.search.now.path.ray x.shape t).strikes) c.args.search.now.from c.args.search.now.path.end c.in_ok-strike.strike in
    let first : F leaves = subst F c.deref-2.ensures.value c.in_ok-strike.ensures.found in
    same_first _ _ search.from search.path.end
    (λ t a b n. counted (leaves_of leaves) pieces search.path.ray search.shadow c.args.piece x r.0 r.1 (sym c.counts.ensures ∙ c.if-not-counts.false) t n)
    (Some c.in_ok-strike.strike) first
