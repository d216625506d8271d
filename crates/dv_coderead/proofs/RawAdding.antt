-- What a line adds to a raw body that is being read.
use Rattle.std.proofs.Common.{◌≡◌, ℕ, List, [], ◌∷◌, ◌++◌, Vec, Global, refl, sym, ap, ◌∙◌, append-nil, append_assoc}
use Rattle.dv_defs.specs.declared.code.Try.{Try}
use Rattle.dv_defs.specs.declared.names.Ty.{Ty}
use Rattle.dv_draft.specs.declared.draft.PoolRef.{PoolRef}
use Rattle.dv_draft.specs.declared.pools.Pools.{Pools}
use Rattle.dv_draft.specs.Pools.{with_ref}
use Rattle.dv_coderead.specs.declared.raw_line.RawPlace.{RawPlace}
use Rattle.dv_coderead.specs.declared.raw_line.RawHandler.{RawHandler}
use Rattle.dv_coderead.specs.declared.raw_line.RawLine.{RawLine}
use Rattle.dv_coderead.specs.declared.raw_line.RawLine.TheVariants as line
use Rattle.dv_coderead.specs.declared.raw_body.RawDrafting.{RawDrafting}
use Rattle.dv_coderead.specs.RawBodies.{raw_body_by, raw_body_with, raw_handlers, raw_refs, raw_registers, raw_tries, raw_units, with_caught, with_refs}
use Rattle.dv_coderead.specs.RawDrafting.{raw_body_made, raw_with}

-- the body with later lines is that with this line and those
abbrev pub Adds : RawDrafting → RawLine → RawDrafting → Type 0
Adds d says new = (ls : List RawLine) → raw_with new ls ≡ raw_with d (says ∷ ls)

module _ (d : RawDrafting) where
  -- the count of registers
  pub adds_registers : (n : ℕ) (p : RawPlace) → Adds d (line.Registers n) (record d { registers = n; place = p })
  unfolding raw_registers raw_refs raw_units raw_handlers
  adds_registers n p ls = refl

  -- an entry of a pool
  pub adds_entry : (r : PoolRef) (pools : Pools) → pools ≡ with_ref d.pools r → Adds d (line.Entry r) (record d { pools = pools })
  unfolding raw_registers raw_refs raw_units raw_handlers
  adds_entry r pools more ls =
      ap (λ (p : Pools). raw_body_by (raw_registers d.registers ls) (with_refs p (raw_refs ls)) (d.units.items ++ raw_units ls) (d.handlers.items ++ raw_handlers ls)) more

  -- the first line of the units
  pub adds_begin : (p : RawPlace) → Adds d line.Begin (record d { place = p })
  unfolding raw_registers raw_refs raw_units raw_handlers
  adds_begin p ls = refl

  -- a line of them
  pub adds_units : (us : List ℕ) (units : Vec ℕ Global) (p : RawPlace) → units.items ≡ d.units.items ++ us → Adds d (line.Units us) (record d { units = units; place = p })
  unfolding raw_registers raw_refs raw_units raw_handlers
  adds_units us units p more ls =
      ap (λ (vs : List ℕ). raw_body_by (raw_registers d.registers ls) (with_refs d.pools (raw_refs ls)) vs (d.handlers.items ++ raw_handlers ls))
      (ap (λ (vs : List ℕ). vs ++ raw_units ls) more ∙ append_assoc d.units.items us (raw_units ls))

  -- and the last
  pub adds_end : (p : RawPlace) → Adds d line.End (record d { place = p })
  unfolding raw_registers raw_refs raw_units raw_handlers
  adds_end p ls = refl

  -- a handler
  pub adds_handler : (h : RawHandler) (handlers : Vec RawHandler Global) → handlers.items ≡ d.handlers.items ++ h ∷ [] → Adds d (line.Handler h) (record d { handlers = handlers })
  unfolding raw_registers raw_refs raw_units raw_handlers
  adds_handler h handlers more ls =
      ap (λ (hs : List RawHandler). raw_body_by (raw_registers d.registers ls) (with_refs d.pools (raw_refs ls)) (d.units.items ++ raw_units ls) hs)
      (ap (λ (hs : List RawHandler). hs ++ raw_handlers ls) more ∙ append_assoc d.handlers.items (h ∷ []) (raw_handlers ls))

  -- where no line is left
  pub adds_nothing : raw_with d [] ≡ raw_body_by d.registers d.pools d.units.items d.handlers.items
  unfolding raw_registers raw_refs raw_units raw_handlers
  adds_nothing = λ i. raw_body_by d.registers d.pools (append-nil d.units.items i) (append-nil d.handlers.items i)

  -- what is put together is the body
  pub body_made : (types : List Ty) (tries : List Try) → types ≡ with_caught d.pools.types d.handlers.items → tries ≡ raw_tries types d.handlers.items
      → raw_body_made d.registers d.units.items tries (record d.pools { types = types }) ≡ raw_with d []
  body_made types tries caught entries =
      ap (λ (ts : List Try). raw_body_made d.registers d.units.items ts (record d.pools { types = types })) entries
      ∙ ap (λ (ts : List Ty). raw_body_with d.registers d.pools ts d.units.items d.handlers.items) caught ∙ sym adds_nothing
