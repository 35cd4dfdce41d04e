use Rattle.std.proofs.Common.{◌≡◌, true, refl}
use Rattle.std.specs.Prelude.{codes}
use Rattle.std.specs.Str.{bytes_eq}
use Rattle.lost_tape.specs.Tapes.{data_of}
use Rattle.lost_tape.proofs.ByNameLemmas.{is_placed, stays, not_that}
use Rattle.lost_tape.proofs.members.LocationMembers.put.Goals as goal

pub returns-then-eq : goal.returns-then-eq
returns-then-eq c before h =
    let name = c.args.name.now in
    let d = data_of c.args.tree in
    let this = codes "id" in
    let same : bytes_eq this name ≡ true = cc in (
      is_placed this name c.unless_null-member.result d before same c.unless_null-member.ensures,
      stays (codes "profile") name c.args.self.now.profile d before (not_that (codes "profile") this name same refl) h.1,
      stays (codes "srsName") name c.args.self.now.srs_name d before (not_that (codes "srsName") this name same refl) h.2,
      stays (codes "pos") name c.args.self.now.pos d before (not_that (codes "pos") this name same refl) h.3,
      stays (codes "address") name c.args.self.now.address d before (not_that (codes "address") this name same refl) h.4,
      stays (codes "token") name c.args.self.now.token d before (not_that (codes "token") this name same refl) h.5,
    )

pub returns-then-eq-2 : goal.returns-then-eq-2
returns-then-eq-2 c before h =
    let name = c.args.name.now in
    let d = data_of c.args.tree in
    let this = codes "profile" in
    let same : bytes_eq this name ≡ true = cc in (
      stays (codes "id") name c.args.self.now.id d before (not_that (codes "id") this name same refl) h.0,
      is_placed this name c.unless_null-member.result d before same c.unless_null-member.ensures,
      stays (codes "srsName") name c.args.self.now.srs_name d before (not_that (codes "srsName") this name same refl) h.2,
      stays (codes "pos") name c.args.self.now.pos d before (not_that (codes "pos") this name same refl) h.3,
      stays (codes "address") name c.args.self.now.address d before (not_that (codes "address") this name same refl) h.4,
      stays (codes "token") name c.args.self.now.token d before (not_that (codes "token") this name same refl) h.5,
    )

pub returns-then-eq-3 : goal.returns-then-eq-3
returns-then-eq-3 c before h =
    let name = c.args.name.now in
    let d = data_of c.args.tree in
    let this = codes "srsName" in
    let same : bytes_eq this name ≡ true = cc in (
      stays (codes "id") name c.args.self.now.id d before (not_that (codes "id") this name same refl) h.0,
      stays (codes "profile") name c.args.self.now.profile d before (not_that (codes "profile") this name same refl) h.1,
      is_placed this name c.unless_null-member.result d before same c.unless_null-member.ensures,
      stays (codes "pos") name c.args.self.now.pos d before (not_that (codes "pos") this name same refl) h.3,
      stays (codes "address") name c.args.self.now.address d before (not_that (codes "address") this name same refl) h.4,
      stays (codes "token") name c.args.self.now.token d before (not_that (codes "token") this name same refl) h.5,
    )

pub returns-then-eq-4 : goal.returns-then-eq-4
returns-then-eq-4 c before h =
    let name = c.args.name.now in
    let d = data_of c.args.tree in
    let this = codes "pos" in
    let same : bytes_eq this name ≡ true = cc in (
      stays (codes "id") name c.args.self.now.id d before (not_that (codes "id") this name same refl) h.0,
      stays (codes "profile") name c.args.self.now.profile d before (not_that (codes "profile") this name same refl) h.1,
      stays (codes "srsName") name c.args.self.now.srs_name d before (not_that (codes "srsName") this name same refl) h.2,
      is_placed this name c.unless_null-member.result d before same c.unless_null-member.ensures,
      stays (codes "address") name c.args.self.now.address d before (not_that (codes "address") this name same refl) h.4,
      stays (codes "token") name c.args.self.now.token d before (not_that (codes "token") this name same refl) h.5,
    )

pub returns-then-eq-5 : goal.returns-then-eq-5
returns-then-eq-5 c before h =
    let name = c.args.name.now in
    let d = data_of c.args.tree in
    let this = codes "address" in
    let same : bytes_eq this name ≡ true = cc in (
      stays (codes "id") name c.args.self.now.id d before (not_that (codes "id") this name same refl) h.0,
      stays (codes "profile") name c.args.self.now.profile d before (not_that (codes "profile") this name same refl) h.1,
      stays (codes "srsName") name c.args.self.now.srs_name d before (not_that (codes "srsName") this name same refl) h.2,
      stays (codes "pos") name c.args.self.now.pos d before (not_that (codes "pos") this name same refl) h.3,
      is_placed this name c.unless_null-member.result d before same c.unless_null-member.ensures,
      stays (codes "token") name c.args.self.now.token d before (not_that (codes "token") this name same refl) h.5,
    )

pub returns-then-eq-6 : goal.returns-then-eq-6
returns-then-eq-6 c before h =
    let name = c.args.name.now in
    let d = data_of c.args.tree in
    let this = codes "token" in
    let same : bytes_eq this name ≡ true = cc in (
      stays (codes "id") name c.args.self.now.id d before (not_that (codes "id") this name same refl) h.0,
      stays (codes "profile") name c.args.self.now.profile d before (not_that (codes "profile") this name same refl) h.1,
      stays (codes "srsName") name c.args.self.now.srs_name d before (not_that (codes "srsName") this name same refl) h.2,
      stays (codes "pos") name c.args.self.now.pos d before (not_that (codes "pos") this name same refl) h.3,
      stays (codes "address") name c.args.self.now.address d before (not_that (codes "address") this name same refl) h.4,
      is_placed this name c.unless_null-member.result d before same c.unless_null-member.ensures,
    )

pub returns-else-eq-6 : goal.returns-else-eq-6
returns-else-eq-6 c before h =
    let name = c.args.name.now in
    let d = data_of c.args.tree in (
      stays (codes "id") name c.args.self.now.id d before (cc) h.0,
      stays (codes "profile") name c.args.self.now.profile d before (cc) h.1,
      stays (codes "srsName") name c.args.self.now.srs_name d before (cc) h.2,
      stays (codes "pos") name c.args.self.now.pos d before (cc) h.3,
      stays (codes "address") name c.args.self.now.address d before (cc) h.4,
      stays (codes "token") name c.args.self.now.token d before (cc) h.5,
    )
