use Rattle.std.proofs.Common.{ℕ, ◌≡◌, ◌∙◌, sym, ap, inl, inr, ◌∷◌, ◌++◌, ◌+◌, List, drop}
use Rattle.std.specs.Prelude.{encode_utf8}
use Rattle.std.specs.Str.{encode_utf8_all}
use Rattle.dv_defs.specs.Texts.{utf8}
use Rattle.dv_names.proofs.Surrogates.{spelled, pair_at, alone_at}
use Rattle.dv_names.proofs.Texts.{utf8_is}
use Rattle.dv_builtin.proofs.encoding.char_at.Goals as goal
use Rattle.dv_builtin.proofs.encoding.char_at.Goals.{then-at-text+in_default, else-at-text}

in_bytes : (us vs : List ℕ) (c : ℕ) → spelled us ≡ c ∷ spelled vs → utf8 us ≡ encode_utf8 c ++ utf8 vs
in_bytes us vs c e = utf8_is us ∙ ap encode_utf8_all e ∙ ap (λ bs. encode_utf8 c ++ bs) (sym (utf8_is vs))

pub returns-in-Some-clause-first : goal.returns-in-Some-clause-first
returns-in-Some-clause-first c =
    in_bytes _ (drop (c.args.at + 2) c.args.text.now) c.in-Some.c (pair_at c.args.text.now c.args.at c.in-Some.c c.if-at-text.true (sym c.pair_char.ensures ∙ c.in-Some.is))

pub returns-clause-first : goal.returns-clause-first
returns-clause-first c =
    in_bytes _ (drop (c.args.at + 1) c.args.text.now) c.lone_char.result
    (alone_at c.args.text.now c.args.at c.requires.within
    (elim c.if-at-text.branch [
      | then-at-text+in_default w ↦ inl (w.if-at-text.true, sym w.pair_char.ensures ∙ w.in_default.is)
      | else-at-text w ↦ inr w.if-at-text.false
    ])
    ∙ ap (λ x. x ∷ spelled (drop (c.args.at + 1) c.args.text.now)) (sym c.lone_char.ensures))
