use Rattle.std.proofs.Common.{ap, map, ◌∙◌}
use Rattle.std.specs.String.{string_bytes, string_eq}
use Rattle.indexmap.specs.IndexSet.{insert_key}
use Rattle.cc_types.specs.MemberLists.{text_numbered}
use Rattle.cc_types.proofs.NumberedTexts.{numbered}
use Rattle.cc_types.proofs.text_numbers.TextNumbers.number.Goals as goal

pub returns : goal.returns
returns c =
    let texts = c.self.inside.texts.keys in
    let text = c.in_ok-text.text in
    ap (λ keys. (map string_bytes keys, c.in_ok-index.index)) c.in_ok-index.ensures.keys
    ∙ ap (λ i. (map string_bytes (insert_key string_eq texts text), i)) c.in_ok-index.ensures.index
    ∙ numbered text texts
    ∙ ap (text_numbered (map string_bytes texts)) c.in_ok-text.ensures.ok
    ∙ ap (λ t. text_numbered t c.args.text.now) c.self.view_is
