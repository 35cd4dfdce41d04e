-- How a list is refused where one of its parts is.
use Rattle.std.proofs.Common.{◌≡◌, ◌≢◌, Bool, true, false, Some, refl, sym, ap, ◌∙◌}
use Rattle.lost_spec.specs.declared.faults.MappingError.{MappingError}
use Rattle.lost_spec.specs.declared.faults.MappingError.TheVariants.{Memory}
use Rattle.lost_location.specs.Refusals.{bad_unless}

fails_where_refused : (passes : Bool) (e : MappingError) → bad_unless passes ≡ Some e → passes ≡ false
fails_where_refused true e h = cc
fails_where_refused false e h = refl

-- what refuses a part refuses the whole, where the whole fails with the part
pub refused_with_part : (part whole : Bool) (e : MappingError) → (part ≡ false → whole ≡ false) → (e ≢ Memory → bad_unless part ≡ Some e) → e ≢ Memory → bad_unless whole ≡ Some e
refused_with_part part whole e with_part refused other =
    let fails : part ≡ false = fails_where_refused part e (refused other) in
    ap bad_unless (with_part fails ∙ sym fails) ∙ refused other
