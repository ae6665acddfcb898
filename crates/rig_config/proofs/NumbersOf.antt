-- The budgets of a tenant, by its line sets and its numbers.
use Rattle.std.proofs.Common.{◌≡◌, ℕ, List, refl, sym, ◌∙◌}
use Rattle.std.specs.Prelude.{Result, Ok, Err}
use Rattle.toml.specs.Data.{Members}
use Rattle.rig_config.specs.Fields.{tenant_field}
use Rattle.rig_config.specs.Reading.{◌>>=◌, budgets_of, lines_in, number, read}
use Rattle.rig_config.specs.inner.Numbers.{budgets_by_parts_of, numbers_of}
use Rattle.rig_config.specs.declared.faults.ConfigFault.{ConfigFault}
use Rattle.rig_config.specs.declared.faults.Field.{Field}
use Rattle.rig_config.specs.declared.faults.Field.TheVariants as field

bind_again : {A B C : Type 0} (m : Result A ConfigFault) (f : A → Result B ConfigFault) (g : B → Result C ConfigFault)
    → (m >>= f) >>= g ≡ m >>= (λ x. f x >>= g)
bind_again (Ok x) f g = refl
bind_again (Err fault) f g = refl

under : {A B : Type 0} (m : Result A ConfigFault) (f g : A → Result B ConfigFault) → ((x : A) → f x ≡ g x) → m >>= f ≡ m >>= g
under (Ok x) f g same = same x
under (Err fault) f g same = refl

-- one more reading in front
before : {A B C : Type 0} (m : Result A ConfigFault) (f : A → Result B ConfigFault) (g : B → Result C ConfigFault) (h : A → Result C ConfigFault)
    → ((x : A) → f x >>= g ≡ h x) → (m >>= f) >>= g ≡ m >>= h
before m f g h same = bind_again m f g ∙ under m (λ x. f x >>= g) h same

pub budgets_by_parts : (version lines t : ℕ) (fields : Members) → budgets_of version lines t fields ≡ budgets_by_parts_of version lines t fields
unfolding budgets_of numbers_of
budgets_by_parts version lines t fields =
    under (lines_of field.Reads) _ _ (λ reads. under (lines_of field.Writes) _ _ (λ writes. sym (
    before (n field.Bytes) _ _ _ (λ bytes. before (n field.Ports) _ _ _ (λ ports. before (n field.Tasks) _ _ _ (λ tasks. before (n field.Modes) _ _ _ (λ modes. before (n field.Steps) _ _ _ (λ steps. before (n field.Trace) _ _ _ (λ trace. before (n field.Offers) _ _ _ (λ offers. before (n field.Binds) _ _ _ (λ binds. refl)))))))))))
  where
    lines_of : Field → Result (List ℕ) ConfigFault
    lines_of f = read (lines_in lines) (tenant_field t f) fields

    n : Field → Result ℕ ConfigFault
    n f = number (tenant_field t f) fields
