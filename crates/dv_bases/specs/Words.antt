-- A register type in one word of 32 bits: its kind in the lowest three; above them the address of an object that isn't initialised, or eight
-- bits of dimensions and the number of the base that a class or an array is over.
use Rattle.std.specs.Prelude.{◌<◌, ◌^◌, ◌%◌, ◌/◌, ℕ, true, false, nat_eq}
use Rattle.dv_bases.specs.declared.words.Part.{Part}
use Rattle.dv_bases.specs.declared.words.Part.TheVariants as part

-- what a kind holds
abbrev pub held : ℕ → ℕ → Part
held kind rest =
    elim (nat_eq kind 0) [
      | true ↦ part.Conflict
      | false ↦
          elim (nat_eq kind 1) [
            | true ↦ part.Zero
            | false ↦
                elim (nat_eq kind 2) [
                  | true ↦ part.Int
                  | false ↦
                      elim (nat_eq kind 3) [
                        | true ↦ part.LongLo
                        | false ↦
                            elim (nat_eq kind 4) [
                              | true ↦ part.LongHi
                              | false ↦
                                  elim (nat_eq kind 5) [
                                    | true ↦ part.UninitThis
                                    | false ↦
                                        elim (nat_eq kind 6) [ true ↦ part.Uninit rest | false ↦ part.Class (record { dims = rest % 256; base = rest / 256 }) ]
                                  ]
                            ]
                      ]
                ]
          ]
    ]

-- what a word holds
unfoldable pub part_in : ℕ → Part
part_in word = held (word % 8) (word / 8)

-- its address or number isn't too large for a word
abbrev pub HasRoom : Part → Type 0
HasRoom (part.Uninit at) = at < 2 ^ 29
HasRoom (part.Class class) = class.base < 2 ^ 21
HasRoom p = Unit {0}
