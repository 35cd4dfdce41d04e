use Rattle.std.proofs.Common.{◌≡◌, true, refl}
use Rattle.std.specs.Prelude.{codes}
use Rattle.std.specs.Str.{bytes_eq}
use Rattle.lost_tape.specs.Tapes.{data_of}
use Rattle.lost_tape.proofs.ByNameLemmas.{is_placed, stays, not_that}
use Rattle.lost_tape.proofs.members.RequestMembers.put.Goals as goal

pub returns-then-eq : goal.returns-then-eq
returns-then-eq c before h =
    let name = c.args.name.now in
    let d = data_of c.args.tree in
    let this = codes "service" in
    let same : bytes_eq this name ≡ true = cc in (
      is_placed this name c.unless_null-member.result d before same c.unless_null-member.ensures,
      stays (codes "location") name c.args.self.now.location d before (not_that (codes "location") this name same refl) h.1,
      stays (codes "validateLocation") name c.args.self.now.validate d before (not_that (codes "validateLocation") this name same refl) h.2,
      stays (codes "serviceBoundary") name c.args.self.now.boundary d before (not_that (codes "serviceBoundary") this name same refl) h.3,
      stays (codes "path") name c.args.self.now.path d before (not_that (codes "path") this name same refl) h.4,
    )

pub returns-then-eq-2 : goal.returns-then-eq-2
returns-then-eq-2 c before h =
    let name = c.args.name.now in
    let d = data_of c.args.tree in
    let this = codes "location" in
    let same : bytes_eq this name ≡ true = cc in (
      stays (codes "service") name c.args.self.now.service d before (not_that (codes "service") this name same refl) h.0,
      is_placed this name c.unless_null-member.result d before same c.unless_null-member.ensures,
      stays (codes "validateLocation") name c.args.self.now.validate d before (not_that (codes "validateLocation") this name same refl) h.2,
      stays (codes "serviceBoundary") name c.args.self.now.boundary d before (not_that (codes "serviceBoundary") this name same refl) h.3,
      stays (codes "path") name c.args.self.now.path d before (not_that (codes "path") this name same refl) h.4,
    )

pub returns-then-eq-3 : goal.returns-then-eq-3
returns-then-eq-3 c before h =
    let name = c.args.name.now in
    let d = data_of c.args.tree in
    let this = codes "validateLocation" in
    let same : bytes_eq this name ≡ true = cc in (
      stays (codes "service") name c.args.self.now.service d before (not_that (codes "service") this name same refl) h.0,
      stays (codes "location") name c.args.self.now.location d before (not_that (codes "location") this name same refl) h.1,
      is_placed this name c.unless_null-member.result d before same c.unless_null-member.ensures,
      stays (codes "serviceBoundary") name c.args.self.now.boundary d before (not_that (codes "serviceBoundary") this name same refl) h.3,
      stays (codes "path") name c.args.self.now.path d before (not_that (codes "path") this name same refl) h.4,
    )

pub returns-then-eq-4 : goal.returns-then-eq-4
returns-then-eq-4 c before h =
    let name = c.args.name.now in
    let d = data_of c.args.tree in
    let this = codes "serviceBoundary" in
    let same : bytes_eq this name ≡ true = cc in (
      stays (codes "service") name c.args.self.now.service d before (not_that (codes "service") this name same refl) h.0,
      stays (codes "location") name c.args.self.now.location d before (not_that (codes "location") this name same refl) h.1,
      stays (codes "validateLocation") name c.args.self.now.validate d before (not_that (codes "validateLocation") this name same refl) h.2,
      is_placed this name c.unless_null-member.result d before same c.unless_null-member.ensures,
      stays (codes "path") name c.args.self.now.path d before (not_that (codes "path") this name same refl) h.4,
    )

pub returns-then-eq-5 : goal.returns-then-eq-5
returns-then-eq-5 c before h =
    let name = c.args.name.now in
    let d = data_of c.args.tree in
    let this = codes "path" in
    let same : bytes_eq this name ≡ true = cc in (
      stays (codes "service") name c.args.self.now.service d before (not_that (codes "service") this name same refl) h.0,
      stays (codes "location") name c.args.self.now.location d before (not_that (codes "location") this name same refl) h.1,
      stays (codes "validateLocation") name c.args.self.now.validate d before (not_that (codes "validateLocation") this name same refl) h.2,
      stays (codes "serviceBoundary") name c.args.self.now.boundary d before (not_that (codes "serviceBoundary") this name same refl) h.3,
      is_placed this name c.unless_null-member.result d before same c.unless_null-member.ensures,
    )

pub returns-else-eq-5 : goal.returns-else-eq-5
returns-else-eq-5 c before h =
    let name = c.args.name.now in
    let d = data_of c.args.tree in (
      stays (codes "service") name c.args.self.now.service d before (cc) h.0,
      stays (codes "location") name c.args.self.now.location d before (cc) h.1,
      stays (codes "validateLocation") name c.args.self.now.validate d before (cc) h.2,
      stays (codes "serviceBoundary") name c.args.self.now.boundary d before (cc) h.3,
      stays (codes "path") name c.args.self.now.path d before (cc) h.4,
    )
