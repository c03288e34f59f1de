use Rattle.rl_words.proofs.FieldLemmas.{field_between, field-with_field, field-with_field_above, field-with_field_below, with_field_same}
use Rattle.rl_words.proofs.laws.bit_fields.Goals as goal

pub returns : goal.returns
returns c = record {
  between = field_between;
  written = field-with_field;
  lower = field-with_field_above;
  higher = field-with_field_below;
  same = with_field_same;
}
