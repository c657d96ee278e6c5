use Rattle.std.proofs.Common.{arith, ◌≡◌, ◌∙◌, ap, pos, int_le, ◌≤ℤ◌, ◌<ℤ◌, FitsSigned, w64}
use Rattle.std.proofs.lemmas.Int.{to_z-of_z, fits_signed_from_abs}
use mir.Syntax.{w128}
use Rattle.fix_math.specs.declared.fix.V3.{V3}
use Rattle.shapes.specs.Faces.{seen_from}
use Rattle.shapes.specs.Rays.{position_of}
use Rattle.shapes.specs.Bodies.{form_at}
use Rattle.shapes.proofs.Bent.{le_true, true_lt, false_lt}
use Rattle.shapes.proofs.Failing.{le_false, failing_0, failing_1, failing_2, failing_3, failing_4, failing_5, none_of_6}
use Rattle.shapes.proofs.cuboid.Cuboid.failing_face.Goals as goal

pub returns-then-x-lt0 : goal.returns-then-x-lt0
returns-then-x-lt0 c =
    let cuboid = c.args.self.now in
    let u : V3 = seen_from cuboid.axes.anchor (position_of c.args.p.now) in
    let seen = c.of_point-sight.ensures in
    let fx : FitsSigned w128 c.value-x.result = record { sfits = c.value-x.type_inv } in
    let hx : FitsSigned w64 cuboid.x.value = fits_signed_from_abs w64 _ (omega (arith, cuboid.x.high)) in
    let kx : FitsSigned w128 cuboid.x.value = fits_signed_from_abs w128 _ (omega (arith, cuboid.x.high)) in
    let ex : c.value-x.result ≡ form_at cuboid.axes.first u = c.value-x.ensures.value ∙ c.along.ensures.value 0 ∙ ap (form_at cuboid.axes.first) seen in
    let fy : FitsSigned w128 c.value-y.result = record { sfits = c.value-y.type_inv } in
    let hy : FitsSigned w64 cuboid.y.value = fits_signed_from_abs w64 _ (omega (arith, cuboid.y.high)) in
    let ky : FitsSigned w128 cuboid.y.value = fits_signed_from_abs w128 _ (omega (arith, cuboid.y.high)) in
    let ey : c.value-y.result ≡ form_at cuboid.axes.second u = c.value-y.ensures.value ∙ c.along-2.ensures.value 0 ∙ ap (form_at cuboid.axes.second) seen in
    let fz : FitsSigned w128 c.value-z.result = record { sfits = c.value-z.type_inv } in
    let hz : FitsSigned w64 cuboid.z.value = fits_signed_from_abs w64 _ (omega (arith, cuboid.z.high)) in
    let kz : FitsSigned w128 cuboid.z.value = fits_signed_from_abs w128 _ (omega (arith, cuboid.z.high)) in
    let ez : c.value-z.result ≡ form_at cuboid.axes.third u = c.value-z.ensures.value ∙ c.along-3.ensures.value 0 ∙ ap (form_at cuboid.axes.third) seen in
    let lt : c.value-x.result <ℤ pos 0 = true_lt _ _ (simp to_z-of_z at c.if-x-lt0.true) in
    let over : form_at cuboid.axes.first u <ℤ pos 0 = rw (← ex) lt in
    failing_0 (int_le (pos 0) (form_at cuboid.axes.first u)) (int_le (form_at cuboid.axes.first u) cuboid.x.value) (int_le (pos 0) (form_at cuboid.axes.second u)) (int_le (form_at cuboid.axes.second u) cuboid.y.value) (int_le (pos 0) (form_at cuboid.axes.third u)) (int_le (form_at cuboid.axes.third u) cuboid.z.value) (le_false (pos 0) (form_at cuboid.axes.first u) over)

pub returns-then-x-self : goal.returns-then-x-self
returns-then-x-self c =
    let cuboid = c.args.self.now in
    let u : V3 = seen_from cuboid.axes.anchor (position_of c.args.p.now) in
    let seen = c.of_point-sight.ensures in
    let fx : FitsSigned w128 c.value-x.result = record { sfits = c.value-x.type_inv } in
    let hx : FitsSigned w64 cuboid.x.value = fits_signed_from_abs w64 _ (omega (arith, cuboid.x.high)) in
    let kx : FitsSigned w128 cuboid.x.value = fits_signed_from_abs w128 _ (omega (arith, cuboid.x.high)) in
    let ex : c.value-x.result ≡ form_at cuboid.axes.first u = c.value-x.ensures.value ∙ c.along.ensures.value 0 ∙ ap (form_at cuboid.axes.first) seen in
    let fy : FitsSigned w128 c.value-y.result = record { sfits = c.value-y.type_inv } in
    let hy : FitsSigned w64 cuboid.y.value = fits_signed_from_abs w64 _ (omega (arith, cuboid.y.high)) in
    let ky : FitsSigned w128 cuboid.y.value = fits_signed_from_abs w128 _ (omega (arith, cuboid.y.high)) in
    let ey : c.value-y.result ≡ form_at cuboid.axes.second u = c.value-y.ensures.value ∙ c.along-2.ensures.value 0 ∙ ap (form_at cuboid.axes.second) seen in
    let fz : FitsSigned w128 c.value-z.result = record { sfits = c.value-z.type_inv } in
    let hz : FitsSigned w64 cuboid.z.value = fits_signed_from_abs w64 _ (omega (arith, cuboid.z.high)) in
    let kz : FitsSigned w128 cuboid.z.value = fits_signed_from_abs w128 _ (omega (arith, cuboid.z.high)) in
    let ez : c.value-z.result ≡ form_at cuboid.axes.third u = c.value-z.ensures.value ∙ c.along-3.ensures.value 0 ∙ ap (form_at cuboid.axes.third) seen in
    let ax : pos 0 ≤ℤ c.value-x.result = false_lt _ _ (simp to_z-of_z at c.if-x-lt0.false) in
    let bx : pos 0 ≤ℤ form_at cuboid.axes.first u = rw (← ex) ax in
    let lt : cuboid.x.value <ℤ c.value-x.result = true_lt _ _ (simp to_z-of_z at c.if-x-self.true) in
    let over : cuboid.x.value <ℤ form_at cuboid.axes.first u = rw (← ex) lt in
    failing_1 (int_le (pos 0) (form_at cuboid.axes.first u)) (int_le (form_at cuboid.axes.first u) cuboid.x.value) (int_le (pos 0) (form_at cuboid.axes.second u)) (int_le (form_at cuboid.axes.second u) cuboid.y.value) (int_le (pos 0) (form_at cuboid.axes.third u)) (int_le (form_at cuboid.axes.third u) cuboid.z.value) (le_true (pos 0) (form_at cuboid.axes.first u) bx) (le_false (form_at cuboid.axes.first u) cuboid.x.value over)

pub returns-then-y-lt0 : goal.returns-then-y-lt0
returns-then-y-lt0 c =
    let cuboid = c.args.self.now in
    let u : V3 = seen_from cuboid.axes.anchor (position_of c.args.p.now) in
    let seen = c.of_point-sight.ensures in
    let fx : FitsSigned w128 c.value-x.result = record { sfits = c.value-x.type_inv } in
    let hx : FitsSigned w64 cuboid.x.value = fits_signed_from_abs w64 _ (omega (arith, cuboid.x.high)) in
    let kx : FitsSigned w128 cuboid.x.value = fits_signed_from_abs w128 _ (omega (arith, cuboid.x.high)) in
    let ex : c.value-x.result ≡ form_at cuboid.axes.first u = c.value-x.ensures.value ∙ c.along.ensures.value 0 ∙ ap (form_at cuboid.axes.first) seen in
    let fy : FitsSigned w128 c.value-y.result = record { sfits = c.value-y.type_inv } in
    let hy : FitsSigned w64 cuboid.y.value = fits_signed_from_abs w64 _ (omega (arith, cuboid.y.high)) in
    let ky : FitsSigned w128 cuboid.y.value = fits_signed_from_abs w128 _ (omega (arith, cuboid.y.high)) in
    let ey : c.value-y.result ≡ form_at cuboid.axes.second u = c.value-y.ensures.value ∙ c.along-2.ensures.value 0 ∙ ap (form_at cuboid.axes.second) seen in
    let fz : FitsSigned w128 c.value-z.result = record { sfits = c.value-z.type_inv } in
    let hz : FitsSigned w64 cuboid.z.value = fits_signed_from_abs w64 _ (omega (arith, cuboid.z.high)) in
    let kz : FitsSigned w128 cuboid.z.value = fits_signed_from_abs w128 _ (omega (arith, cuboid.z.high)) in
    let ez : c.value-z.result ≡ form_at cuboid.axes.third u = c.value-z.ensures.value ∙ c.along-3.ensures.value 0 ∙ ap (form_at cuboid.axes.third) seen in
    let ax : pos 0 ≤ℤ c.value-x.result = false_lt _ _ (simp to_z-of_z at c.if-x-lt0.false) in
    let bx : pos 0 ≤ℤ form_at cuboid.axes.first u = rw (← ex) ax in
    let dx : c.value-x.result ≤ℤ cuboid.x.value = false_lt _ _ (simp to_z-of_z at c.if-x-self.false) in
    let gx : form_at cuboid.axes.first u ≤ℤ cuboid.x.value = rw (← ex) dx in
    let lt : c.value-y.result <ℤ pos 0 = true_lt _ _ (simp to_z-of_z at c.if-y-lt0.true) in
    let over : form_at cuboid.axes.second u <ℤ pos 0 = rw (← ey) lt in
    failing_2 (int_le (pos 0) (form_at cuboid.axes.first u)) (int_le (form_at cuboid.axes.first u) cuboid.x.value) (int_le (pos 0) (form_at cuboid.axes.second u)) (int_le (form_at cuboid.axes.second u) cuboid.y.value) (int_le (pos 0) (form_at cuboid.axes.third u)) (int_le (form_at cuboid.axes.third u) cuboid.z.value) (le_true (pos 0) (form_at cuboid.axes.first u) bx) (le_true (form_at cuboid.axes.first u) cuboid.x.value gx) (le_false (pos 0) (form_at cuboid.axes.second u) over)

pub returns-then-y-self : goal.returns-then-y-self
returns-then-y-self c =
    let cuboid = c.args.self.now in
    let u : V3 = seen_from cuboid.axes.anchor (position_of c.args.p.now) in
    let seen = c.of_point-sight.ensures in
    let fx : FitsSigned w128 c.value-x.result = record { sfits = c.value-x.type_inv } in
    let hx : FitsSigned w64 cuboid.x.value = fits_signed_from_abs w64 _ (omega (arith, cuboid.x.high)) in
    let kx : FitsSigned w128 cuboid.x.value = fits_signed_from_abs w128 _ (omega (arith, cuboid.x.high)) in
    let ex : c.value-x.result ≡ form_at cuboid.axes.first u = c.value-x.ensures.value ∙ c.along.ensures.value 0 ∙ ap (form_at cuboid.axes.first) seen in
    let fy : FitsSigned w128 c.value-y.result = record { sfits = c.value-y.type_inv } in
    let hy : FitsSigned w64 cuboid.y.value = fits_signed_from_abs w64 _ (omega (arith, cuboid.y.high)) in
    let ky : FitsSigned w128 cuboid.y.value = fits_signed_from_abs w128 _ (omega (arith, cuboid.y.high)) in
    let ey : c.value-y.result ≡ form_at cuboid.axes.second u = c.value-y.ensures.value ∙ c.along-2.ensures.value 0 ∙ ap (form_at cuboid.axes.second) seen in
    let fz : FitsSigned w128 c.value-z.result = record { sfits = c.value-z.type_inv } in
    let hz : FitsSigned w64 cuboid.z.value = fits_signed_from_abs w64 _ (omega (arith, cuboid.z.high)) in
    let kz : FitsSigned w128 cuboid.z.value = fits_signed_from_abs w128 _ (omega (arith, cuboid.z.high)) in
    let ez : c.value-z.result ≡ form_at cuboid.axes.third u = c.value-z.ensures.value ∙ c.along-3.ensures.value 0 ∙ ap (form_at cuboid.axes.third) seen in
    let ax : pos 0 ≤ℤ c.value-x.result = false_lt _ _ (simp to_z-of_z at c.if-x-lt0.false) in
    let bx : pos 0 ≤ℤ form_at cuboid.axes.first u = rw (← ex) ax in
    let dx : c.value-x.result ≤ℤ cuboid.x.value = false_lt _ _ (simp to_z-of_z at c.if-x-self.false) in
    let gx : form_at cuboid.axes.first u ≤ℤ cuboid.x.value = rw (← ex) dx in
    let ay : pos 0 ≤ℤ c.value-y.result = false_lt _ _ (simp to_z-of_z at c.if-y-lt0.false) in
    let by : pos 0 ≤ℤ form_at cuboid.axes.second u = rw (← ey) ay in
    let lt : cuboid.y.value <ℤ c.value-y.result = true_lt _ _ (simp to_z-of_z at c.if-y-self.true) in
    let over : cuboid.y.value <ℤ form_at cuboid.axes.second u = rw (← ey) lt in
    failing_3 (int_le (pos 0) (form_at cuboid.axes.first u)) (int_le (form_at cuboid.axes.first u) cuboid.x.value) (int_le (pos 0) (form_at cuboid.axes.second u)) (int_le (form_at cuboid.axes.second u) cuboid.y.value) (int_le (pos 0) (form_at cuboid.axes.third u)) (int_le (form_at cuboid.axes.third u) cuboid.z.value) (le_true (pos 0) (form_at cuboid.axes.first u) bx) (le_true (form_at cuboid.axes.first u) cuboid.x.value gx) (le_true (pos 0) (form_at cuboid.axes.second u) by) (le_false (form_at cuboid.axes.second u) cuboid.y.value over)

pub returns-then-z-lt0 : goal.returns-then-z-lt0
returns-then-z-lt0 c =
    let cuboid = c.args.self.now in
    let u : V3 = seen_from cuboid.axes.anchor (position_of c.args.p.now) in
    let seen = c.of_point-sight.ensures in
    let fx : FitsSigned w128 c.value-x.result = record { sfits = c.value-x.type_inv } in
    let hx : FitsSigned w64 cuboid.x.value = fits_signed_from_abs w64 _ (omega (arith, cuboid.x.high)) in
    let kx : FitsSigned w128 cuboid.x.value = fits_signed_from_abs w128 _ (omega (arith, cuboid.x.high)) in
    let ex : c.value-x.result ≡ form_at cuboid.axes.first u = c.value-x.ensures.value ∙ c.along.ensures.value 0 ∙ ap (form_at cuboid.axes.first) seen in
    let fy : FitsSigned w128 c.value-y.result = record { sfits = c.value-y.type_inv } in
    let hy : FitsSigned w64 cuboid.y.value = fits_signed_from_abs w64 _ (omega (arith, cuboid.y.high)) in
    let ky : FitsSigned w128 cuboid.y.value = fits_signed_from_abs w128 _ (omega (arith, cuboid.y.high)) in
    let ey : c.value-y.result ≡ form_at cuboid.axes.second u = c.value-y.ensures.value ∙ c.along-2.ensures.value 0 ∙ ap (form_at cuboid.axes.second) seen in
    let fz : FitsSigned w128 c.value-z.result = record { sfits = c.value-z.type_inv } in
    let hz : FitsSigned w64 cuboid.z.value = fits_signed_from_abs w64 _ (omega (arith, cuboid.z.high)) in
    let kz : FitsSigned w128 cuboid.z.value = fits_signed_from_abs w128 _ (omega (arith, cuboid.z.high)) in
    let ez : c.value-z.result ≡ form_at cuboid.axes.third u = c.value-z.ensures.value ∙ c.along-3.ensures.value 0 ∙ ap (form_at cuboid.axes.third) seen in
    let ax : pos 0 ≤ℤ c.value-x.result = false_lt _ _ (simp to_z-of_z at c.if-x-lt0.false) in
    let bx : pos 0 ≤ℤ form_at cuboid.axes.first u = rw (← ex) ax in
    let dx : c.value-x.result ≤ℤ cuboid.x.value = false_lt _ _ (simp to_z-of_z at c.if-x-self.false) in
    let gx : form_at cuboid.axes.first u ≤ℤ cuboid.x.value = rw (← ex) dx in
    let ay : pos 0 ≤ℤ c.value-y.result = false_lt _ _ (simp to_z-of_z at c.if-y-lt0.false) in
    let by : pos 0 ≤ℤ form_at cuboid.axes.second u = rw (← ey) ay in
    let dy : c.value-y.result ≤ℤ cuboid.y.value = false_lt _ _ (simp to_z-of_z at c.if-y-self.false) in
    let gy : form_at cuboid.axes.second u ≤ℤ cuboid.y.value = rw (← ey) dy in
    let lt : c.value-z.result <ℤ pos 0 = true_lt _ _ (simp to_z-of_z at c.if-z-lt0.true) in
    let over : form_at cuboid.axes.third u <ℤ pos 0 = rw (← ez) lt in
    failing_4 (int_le (pos 0) (form_at cuboid.axes.first u)) (int_le (form_at cuboid.axes.first u) cuboid.x.value) (int_le (pos 0) (form_at cuboid.axes.second u)) (int_le (form_at cuboid.axes.second u) cuboid.y.value) (int_le (pos 0) (form_at cuboid.axes.third u)) (int_le (form_at cuboid.axes.third u) cuboid.z.value) (le_true (pos 0) (form_at cuboid.axes.first u) bx) (le_true (form_at cuboid.axes.first u) cuboid.x.value gx) (le_true (pos 0) (form_at cuboid.axes.second u) by) (le_true (form_at cuboid.axes.second u) cuboid.y.value gy) (le_false (pos 0) (form_at cuboid.axes.third u) over)

pub returns-then-z-self : goal.returns-then-z-self
returns-then-z-self c =
    let cuboid = c.args.self.now in
    let u : V3 = seen_from cuboid.axes.anchor (position_of c.args.p.now) in
    let seen = c.of_point-sight.ensures in
    let fx : FitsSigned w128 c.value-x.result = record { sfits = c.value-x.type_inv } in
    let hx : FitsSigned w64 cuboid.x.value = fits_signed_from_abs w64 _ (omega (arith, cuboid.x.high)) in
    let kx : FitsSigned w128 cuboid.x.value = fits_signed_from_abs w128 _ (omega (arith, cuboid.x.high)) in
    let ex : c.value-x.result ≡ form_at cuboid.axes.first u = c.value-x.ensures.value ∙ c.along.ensures.value 0 ∙ ap (form_at cuboid.axes.first) seen in
    let fy : FitsSigned w128 c.value-y.result = record { sfits = c.value-y.type_inv } in
    let hy : FitsSigned w64 cuboid.y.value = fits_signed_from_abs w64 _ (omega (arith, cuboid.y.high)) in
    let ky : FitsSigned w128 cuboid.y.value = fits_signed_from_abs w128 _ (omega (arith, cuboid.y.high)) in
    let ey : c.value-y.result ≡ form_at cuboid.axes.second u = c.value-y.ensures.value ∙ c.along-2.ensures.value 0 ∙ ap (form_at cuboid.axes.second) seen in
    let fz : FitsSigned w128 c.value-z.result = record { sfits = c.value-z.type_inv } in
    let hz : FitsSigned w64 cuboid.z.value = fits_signed_from_abs w64 _ (omega (arith, cuboid.z.high)) in
    let kz : FitsSigned w128 cuboid.z.value = fits_signed_from_abs w128 _ (omega (arith, cuboid.z.high)) in
    let ez : c.value-z.result ≡ form_at cuboid.axes.third u = c.value-z.ensures.value ∙ c.along-3.ensures.value 0 ∙ ap (form_at cuboid.axes.third) seen in
    let ax : pos 0 ≤ℤ c.value-x.result = false_lt _ _ (simp to_z-of_z at c.if-x-lt0.false) in
    let bx : pos 0 ≤ℤ form_at cuboid.axes.first u = rw (← ex) ax in
    let dx : c.value-x.result ≤ℤ cuboid.x.value = false_lt _ _ (simp to_z-of_z at c.if-x-self.false) in
    let gx : form_at cuboid.axes.first u ≤ℤ cuboid.x.value = rw (← ex) dx in
    let ay : pos 0 ≤ℤ c.value-y.result = false_lt _ _ (simp to_z-of_z at c.if-y-lt0.false) in
    let by : pos 0 ≤ℤ form_at cuboid.axes.second u = rw (← ey) ay in
    let dy : c.value-y.result ≤ℤ cuboid.y.value = false_lt _ _ (simp to_z-of_z at c.if-y-self.false) in
    let gy : form_at cuboid.axes.second u ≤ℤ cuboid.y.value = rw (← ey) dy in
    let az : pos 0 ≤ℤ c.value-z.result = false_lt _ _ (simp to_z-of_z at c.if-z-lt0.false) in
    let bz : pos 0 ≤ℤ form_at cuboid.axes.third u = rw (← ez) az in
    let lt : cuboid.z.value <ℤ c.value-z.result = true_lt _ _ (simp to_z-of_z at c.if-z-self.true) in
    let over : cuboid.z.value <ℤ form_at cuboid.axes.third u = rw (← ez) lt in
    failing_5 (int_le (pos 0) (form_at cuboid.axes.first u)) (int_le (form_at cuboid.axes.first u) cuboid.x.value) (int_le (pos 0) (form_at cuboid.axes.second u)) (int_le (form_at cuboid.axes.second u) cuboid.y.value) (int_le (pos 0) (form_at cuboid.axes.third u)) (int_le (form_at cuboid.axes.third u) cuboid.z.value) (le_true (pos 0) (form_at cuboid.axes.first u) bx) (le_true (form_at cuboid.axes.first u) cuboid.x.value gx) (le_true (pos 0) (form_at cuboid.axes.second u) by) (le_true (form_at cuboid.axes.second u) cuboid.y.value gy) (le_true (pos 0) (form_at cuboid.axes.third u) bz) (le_false (form_at cuboid.axes.third u) cuboid.z.value over)

pub returns-else-z-self : goal.returns-else-z-self
returns-else-z-self c =
    let cuboid = c.args.self.now in
    let u : V3 = seen_from cuboid.axes.anchor (position_of c.args.p.now) in
    let seen = c.of_point-sight.ensures in
    let fx : FitsSigned w128 c.value-x.result = record { sfits = c.value-x.type_inv } in
    let hx : FitsSigned w64 cuboid.x.value = fits_signed_from_abs w64 _ (omega (arith, cuboid.x.high)) in
    let kx : FitsSigned w128 cuboid.x.value = fits_signed_from_abs w128 _ (omega (arith, cuboid.x.high)) in
    let ex : c.value-x.result ≡ form_at cuboid.axes.first u = c.value-x.ensures.value ∙ c.along.ensures.value 0 ∙ ap (form_at cuboid.axes.first) seen in
    let fy : FitsSigned w128 c.value-y.result = record { sfits = c.value-y.type_inv } in
    let hy : FitsSigned w64 cuboid.y.value = fits_signed_from_abs w64 _ (omega (arith, cuboid.y.high)) in
    let ky : FitsSigned w128 cuboid.y.value = fits_signed_from_abs w128 _ (omega (arith, cuboid.y.high)) in
    let ey : c.value-y.result ≡ form_at cuboid.axes.second u = c.value-y.ensures.value ∙ c.along-2.ensures.value 0 ∙ ap (form_at cuboid.axes.second) seen in
    let fz : FitsSigned w128 c.value-z.result = record { sfits = c.value-z.type_inv } in
    let hz : FitsSigned w64 cuboid.z.value = fits_signed_from_abs w64 _ (omega (arith, cuboid.z.high)) in
    let kz : FitsSigned w128 cuboid.z.value = fits_signed_from_abs w128 _ (omega (arith, cuboid.z.high)) in
    let ez : c.value-z.result ≡ form_at cuboid.axes.third u = c.value-z.ensures.value ∙ c.along-3.ensures.value 0 ∙ ap (form_at cuboid.axes.third) seen in
    let ax : pos 0 ≤ℤ c.value-x.result = false_lt _ _ (simp to_z-of_z at c.if-x-lt0.false) in
    let bx : pos 0 ≤ℤ form_at cuboid.axes.first u = rw (← ex) ax in
    let dx : c.value-x.result ≤ℤ cuboid.x.value = false_lt _ _ (simp to_z-of_z at c.if-x-self.false) in
    let gx : form_at cuboid.axes.first u ≤ℤ cuboid.x.value = rw (← ex) dx in
    let ay : pos 0 ≤ℤ c.value-y.result = false_lt _ _ (simp to_z-of_z at c.if-y-lt0.false) in
    let by : pos 0 ≤ℤ form_at cuboid.axes.second u = rw (← ey) ay in
    let dy : c.value-y.result ≤ℤ cuboid.y.value = false_lt _ _ (simp to_z-of_z at c.if-y-self.false) in
    let gy : form_at cuboid.axes.second u ≤ℤ cuboid.y.value = rw (← ey) dy in
    let az : pos 0 ≤ℤ c.value-z.result = false_lt _ _ (simp to_z-of_z at c.if-z-lt0.false) in
    let bz : pos 0 ≤ℤ form_at cuboid.axes.third u = rw (← ez) az in
    let dz : c.value-z.result ≤ℤ cuboid.z.value = false_lt _ _ (simp to_z-of_z at c.if-z-self.false) in
    let gz : form_at cuboid.axes.third u ≤ℤ cuboid.z.value = rw (← ez) dz in
    none_of_6 (int_le (pos 0) (form_at cuboid.axes.first u)) (int_le (form_at cuboid.axes.first u) cuboid.x.value) (int_le (pos 0) (form_at cuboid.axes.second u)) (int_le (form_at cuboid.axes.second u) cuboid.y.value) (int_le (pos 0) (form_at cuboid.axes.third u)) (int_le (form_at cuboid.axes.third u) cuboid.z.value) (le_true (pos 0) (form_at cuboid.axes.first u) bx) (le_true (form_at cuboid.axes.first u) cuboid.x.value gx) (le_true (pos 0) (form_at cuboid.axes.second u) by) (le_true (form_at cuboid.axes.second u) cuboid.y.value gy) (le_true (pos 0) (form_at cuboid.axes.third u) bz) (le_true (form_at cuboid.axes.third u) cuboid.z.value gz)
