use Rattle.std.proofs.Common.{◌≡◌, List, [], ◌∷◌, ◌++◌, ap, ◌∙◌}
use Rattle.dv_draft.specs.declared.draft.Item.{Item}
use Rattle.dv_draft.specs.declared.draft.What.{What}
use Rattle.dv_coderead.specs.declared.body_line.Opening.{Opening}
use Rattle.dv_coderead.specs.declared.drafting.Open.{Open}
use Rattle.dv_coderead.specs.Drafting.{payload_with}
use Rattle.dv_coderead.proofs.Adding.{adds_end}
use Rattle.dv_coderead.proofs.drafting.Drafting.end_block.Goals as goal

-- the payload that was taken and put behind the other items is the one that was open
payload_put : (items new : List Item) (o : Opening) (q taken : Open) (w : What) → taken ≡ q → w ≡ payload_with o taken [] → new ≡ items ++ record { line = taken.line; what = w } ∷ []
    → new ≡ items ++ record { line = q.line; what = payload_with o q [] } ∷ []
payload_put items new o q taken w same is more =
    more ∙ ap (λ w. items ++ record { line = taken.line; what = w } ∷ []) is ∙ ap (λ (q : Open). items ++ record { line = q.line; what = payload_with o q [] } ∷ []) same

pub returns : goal.returns
returns c = λ n.
    let d = c.args.self.now in
    let o = c.in-Some.opening in
    let now = c.replace-open.ensures.after in
    adds_end d n c.requires.drafting o c.push.new.self c.replace-open.new.dest c.in-Some.is
    (ap (λ (q : Open). q.labels.items) now ∙ c.new.ensures.labels) (ap (λ (q : Open). q.keys.items) now ∙ c.new.ensures.keys) (ap (λ (q : Open). q.bytes.items) now ∙ c.new.ensures.bytes)
    (payload_put d.items.items c.push.new.self.items o d.open c.replace-open.result c.payload.result c.replace-open.ensures.value c.payload.ensures c.in_ok-push.ensures.items)
