-- An edit is refused for want of memory, or for another cause.
use Rattle.std.proofs.Common.{◌≡◌, ◌≢◌, ◌⊎◌, inl, inr, refl}
use Rattle.lost_spec.specs.declared.faults.EditError.{EditError}
use Rattle.lost_spec.specs.declared.faults.EditError.TheVariants.{IdentityHeld, IdentityUnknown, NotNewer, KeyHeld, KeyUnchanged, Full, EditsSpent, Memory, Withdrawn, TracesFull}

pub memory_or_other : (e : EditError) → (e ≡ Memory) ⊎ (e ≢ Memory)
memory_or_other IdentityHeld = inr (λ same. absurd (cc))
memory_or_other IdentityUnknown = inr (λ same. absurd (cc))
memory_or_other NotNewer = inr (λ same. absurd (cc))
memory_or_other KeyHeld = inr (λ same. absurd (cc))
memory_or_other KeyUnchanged = inr (λ same. absurd (cc))
memory_or_other Full = inr (λ same. absurd (cc))
memory_or_other EditsSpent = inr (λ same. absurd (cc))
memory_or_other Memory = inl refl
memory_or_other Withdrawn = inr (λ same. absurd (cc))
memory_or_other TracesFull = inr (λ same. absurd (cc))
