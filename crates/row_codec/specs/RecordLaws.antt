-- That each record has one spelling.
use Rattle.std.specs.Prelude.{◌≢◌, ◌<◌, ◌^◌, refl}
use Rattle.std.proofs.Common.{arith}
use Rattle.plan_codec.specs.Below.{IsStackName, IsResName}
use Rattle.plan_codec.specs.Below.{IsNumber}
use Rattle.plan_codec.specs.Below.{Rollback}
use Rattle.row_table.specs.declared.row.Row.{Row}
use Rattle.plan_codec.specs.Spellings.{IsUnique, Regroups}
use Rattle.plan_codec.specs.Numbers.{spelled_number, spelled_bytes, spelled_flag, IsHalfWord, IsWord, IsAny}
use Rattle.plan_codec.specs.Parts.{spelled_pair, AreBoth, spelled_option, IsIfSome, spelled_list, AreAll}
use Rattle.plan_codec.specs.Values.{spelled_fields}
use Rattle.plan_codec.specs.Plans.{IsProperties, spelled_kind, IsProperKind, spelled_facts, IsProperFacts}
use Rattle.plan_codec.specs.Plans.{spelled_policy, IsPolicy, spelled_plan, IsProperPlan}
use Rattle.plan_codec.specs.Laws.{narrowed, number_unique, half_word_unique, drawn_unique, flag_unique, stack_name_unique}
use Rattle.plan_codec.specs.Laws.{resource_name_unique, pair_unique, option_unique, list_unique, regrouped_unique}
use Rattle.plan_codec.specs.PlanLaws.{properties_unique, policy_unique, kind_unique, facts_unique, plan_unique}
use Rattle.row_codec.specs.Words.{spelled_act, IsAct, spelled_status, IsStatus, spelled_stage, IsStage}
use Rattle.row_codec.specs.Words.{spelled_node, IsProperNode, IsNext}
use Rattle.row_codec.specs.WordLaws.{act_unique, status_unique, stage_unique, node_unique, next_unique}
use Rattle.row_codec.specs.Records.{spelled_stack, IsProperStack}
use Rattle.row_codec.specs.Records.{spelled_graph, IsProperGraph}
use Rattle.row_codec.specs.Records.{spelled_input, IsProperInput}
use Rattle.row_codec.specs.Records.{spelled_point, IsProperPoint}
use Rattle.row_codec.specs.Records.{spelled_letter, IsProperLetter}
use Rattle.row_codec.specs.Records.{spelled_job, IsProperJob}
use Rattle.row_codec.specs.Records.{spelled_numbers, IsProperNumbers}
use Rattle.row_codec.specs.Records.{spelled_past, IsProperPast}
use Rattle.row_codec.specs.Records.{spelled_token, IsProperToken}
use Rattle.row_codec.specs.Records.{spelled_row_head, spelled_row_contents, spelled_row_ties, spelled_row, IsProperRow}

unfoldable pub stack_parts : Regroups (spelled_pair spelled_bytes (spelled_pair spelled_number (spelled_pair spelled_number (spelled_pair spelled_act (spelled_pair spelled_status (spelled_option spelled_plan))))))
    (AreBoth IsStackName (AreBoth IsNumber (AreBoth IsNumber (AreBoth IsAct (AreBoth IsStatus (IsIfSome IsProperPlan))))))
    spelled_stack IsProperStack
unfolding spelled_stack
stack_parts = record {
  to = λ t. record { name = t.0; no = t.1.0; trav = t.1.1.0; act = t.1.1.1.0; status = t.1.1.1.1.0; plan = t.1.1.1.1.1 };
  from = λ s. (s.name, (s.no, (s.trav, (s.act, (s.status, s.plan)))));
  back = λ t. refl;
  again = λ s. refl;
  alike = λ s. refl;
  keeps = λ t h. record { name = h.0; no = h.1.0; trav = h.1.1.0; act = h.1.1.1.0; status = h.1.1.1.1.0; plan = h.1.1.1.1.1 };
  gives = λ s h. (h.name, (h.no, (h.trav, (h.act, (h.status, h.plan)))));
}

pub stack_unique : IsUnique spelled_stack IsProperStack
stack_unique = regrouped_unique stack_parts (pair_unique stack_name_unique (pair_unique drawn_unique (pair_unique drawn_unique (pair_unique act_unique (pair_unique status_unique (option_unique plan_unique))))))

unfoldable pub graph_parts : Regroups (spelled_pair (spelled_list spelled_node) (spelled_list (spelled_pair spelled_number spelled_number)))
    (AreBoth (AreAll IsProperNode) (AreAll (AreBoth IsHalfWord IsHalfWord)))
    spelled_graph IsProperGraph
unfolding spelled_graph
graph_parts = record {
  to = λ t. record { nodes = t.0; edges = t.1 };
  from = λ g. (g.nodes, g.edges);
  back = λ t. refl;
  again = λ g. refl;
  alike = λ g. refl;
  keeps = λ t h. record { nodes = h.0; edges = h.1 };
  gives = λ g h. (h.nodes, h.edges);
}

pub graph_unique : IsUnique spelled_graph IsProperGraph
graph_unique = regrouped_unique graph_parts (pair_unique (list_unique node_unique) (list_unique (pair_unique half_word_unique half_word_unique)))

unfoldable pub input_parts : Regroups (spelled_pair spelled_number (spelled_pair (spelled_option spelled_bytes) (spelled_pair spelled_number (spelled_option spelled_facts))))
    (AreBoth IsHalfWord (AreBoth (IsIfSome IsResName) (AreBoth IsNumber (IsIfSome IsProperFacts))))
    spelled_input IsProperInput
unfolding spelled_input
input_parts = record {
  to = λ t. record { from = t.0; name = t.1.0; row = t.1.1.0; facts = t.1.1.1 };
  from = λ i. (i.from, (i.name, (i.row, i.facts)));
  back = λ t. refl;
  again = λ i. refl;
  alike = λ i. refl;
  keeps = λ t h. record { from = h.0; name = h.1.0; row = h.1.1.0; facts = h.1.1.1 };
  gives = λ i h. (h.from, (h.name, (h.row, h.facts)));
}

pub input_unique : IsUnique spelled_input IsProperInput
input_unique = regrouped_unique input_parts (pair_unique half_word_unique (pair_unique (option_unique resource_name_unique) (pair_unique drawn_unique (option_unique facts_unique))))

unfoldable pub point_parts : Regroups (spelled_pair spelled_bytes (spelled_pair spelled_number (spelled_pair (spelled_list spelled_input) spelled_flag)))
    (AreBoth IsStackName (AreBoth IsHalfWord (AreBoth (AreAll IsProperInput) IsAny)))
    spelled_point IsProperPoint
unfolding spelled_point
point_parts = record {
  to = λ t. record { stack = t.0; node = t.1.0; inputs = t.1.1.0; done = t.1.1.1 };
  from = λ p. (p.stack, (p.node, (p.inputs, p.done)));
  back = λ t. refl;
  again = λ p. refl;
  alike = λ p. refl;
  keeps = λ t h. record { stack = h.0; node = h.1.0; inputs = h.1.1.0; done = h.1.1.1 };
  gives = λ p h. (h.stack, (h.node, (h.inputs, h.done)));
}

pub point_unique : IsUnique spelled_point IsProperPoint
point_unique = regrouped_unique point_parts (pair_unique stack_name_unique (pair_unique half_word_unique (pair_unique (list_unique input_unique) flag_unique)))

unfoldable pub letter_parts : Regroups (spelled_pair spelled_number (spelled_pair spelled_bytes (spelled_pair spelled_number spelled_number)))
    (AreBoth IsNumber (AreBoth IsStackName (AreBoth IsNumber IsHalfWord)))
    spelled_letter IsProperLetter
unfolding spelled_letter
letter_parts = record {
  to = λ t. record { no = t.0; stack = t.1.0; trav = t.1.1.0; node = t.1.1.1 };
  from = λ l. (l.no, (l.stack, (l.trav, l.node)));
  back = λ t. refl;
  again = λ l. refl;
  alike = λ l. refl;
  keeps = λ t h. record { no = h.0; stack = h.1.0; trav = h.1.1.0; node = h.1.1.1 };
  gives = λ l h. (h.no, (h.stack, (h.trav, h.node)));
}

pub letter_unique : IsUnique spelled_letter IsProperLetter
letter_unique = regrouped_unique letter_parts (pair_unique drawn_unique (pair_unique stack_name_unique (pair_unique drawn_unique half_word_unique)))

unfoldable pub job_parts : Regroups (spelled_pair spelled_number (spelled_pair spelled_letter (spelled_pair spelled_number spelled_stage)))
    (AreBoth IsNumber (AreBoth IsProperLetter (AreBoth IsNumber IsStage)))
    spelled_job IsProperJob
unfolding spelled_job
job_parts = record {
  to = λ t. record { engine = t.0; letter = t.1.0; row = t.1.1.0; stage = t.1.1.1 };
  from = λ j. (j.engine, (j.letter, (j.row, j.stage)));
  back = λ t. refl;
  again = λ j. refl;
  alike = λ j. refl;
  keeps = λ t h. record { engine = h.0; letter = h.1.0; row = h.1.1.0; stage = h.1.1.1 };
  gives = λ j h. (h.engine, (h.letter, (h.row, h.stage)));
}

pub job_unique : IsUnique spelled_job IsProperJob
job_unique = regrouped_unique job_parts (pair_unique drawn_unique (pair_unique letter_unique (pair_unique drawn_unique stage_unique)))

unfoldable pub numbers_parts : Regroups (spelled_pair spelled_number (spelled_pair spelled_number (spelled_pair spelled_number (spelled_pair spelled_number spelled_number))))
    (AreBoth IsNext (AreBoth IsNext (AreBoth IsNext (AreBoth IsNext IsNext))))
    spelled_numbers IsProperNumbers
unfolding spelled_numbers
numbers_parts = record {
  to = λ t. record { stack = t.0; trav = t.1.0; row = t.1.1.0; engine = t.1.1.1.0; letter = t.1.1.1.1 };
  from = λ n. (n.stack, (n.trav, (n.row, (n.engine, n.letter))));
  back = λ t. refl;
  again = λ n. refl;
  alike = λ n. refl;
  keeps = λ t h. record { stack = h.0; trav = h.1.0; row = h.1.1.0; engine = h.1.1.1.0; letter = h.1.1.1.1 };
  gives = λ n h. (h.stack, (h.trav, (h.row, (h.engine, h.letter))));
}

pub numbers_unique : IsUnique spelled_numbers IsProperNumbers
numbers_unique = regrouped_unique numbers_parts (pair_unique next_unique (pair_unique next_unique (pair_unique next_unique (pair_unique next_unique next_unique))))

unfoldable pub past_parts : Regroups (spelled_pair spelled_bytes (spelled_pair spelled_flag (spelled_option spelled_plan)))
    (AreBoth IsStackName (AreBoth IsAny (IsIfSome IsProperPlan)))
    spelled_past IsProperPast
unfolding spelled_past
past_parts = record {
  to = λ t. record { stack = t.0; rollback = t.1.0; back = t.1.1 };
  from = λ p. (p.stack, (p.rollback, p.back));
  back = λ t. refl;
  again = λ p. refl;
  alike = λ p. refl;
  keeps = λ t h. record { stack = h.0; rollback = h.1.0; back = h.1.1 };
  gives = λ p h. (h.stack, (h.rollback, h.back));
}

pub past_unique : IsUnique spelled_past IsProperPast
past_unique = regrouped_unique past_parts (pair_unique stack_name_unique (pair_unique flag_unique (option_unique plan_unique)))

unfoldable pub token_parts : Regroups (spelled_pair spelled_bytes (spelled_pair spelled_bytes spelled_number))
    (AreBoth IsStackName (AreBoth IsResName IsNumber))
    spelled_token IsProperToken
unfolding spelled_token
token_parts = record {
  to = λ t. record { stack = t.0; name = t.1.0; row = t.1.1 };
  from = λ x. (x.stack, (x.name, x.row));
  back = λ t. refl;
  again = λ x. refl;
  alike = λ x. refl;
  keeps = λ t h. record { stack = h.0; name = h.1.0; row = h.1.1 };
  gives = λ x h. (h.stack, (h.name, h.row));
}

pub token_unique : IsUnique spelled_token IsProperToken
token_unique = regrouped_unique token_parts (pair_unique stack_name_unique (pair_unique resource_name_unique drawn_unique))

-- a row, but for its act and key
pub record IsAnyRow (r : Row) : Type 0 where
  pub no : IsNumber r.no
  pub stack : IsStackName r.stack
  pub name : IsResName r.name
  pub kind : IsProperKind r.kind
  pub act : IsAct r.act
  pub status : IsStatus r.status
  pub trav : IsNumber r.trav
  pub props : IsProperties r.props
  pub target : IsIfSome IsProperties r.target
  pub facts : IsIfSome IsProperFacts r.facts
  pub requires_ : AreAll IsNumber r.requires_
  pub replaces : IsIfSome IsNumber r.replaces
  pub replaced_by : IsIfSome IsNumber r.replaced_by
  pub engine : IsIfSome IsNumber r.engine
  pub key : IsWord r.key
  pub policy : IsPolicy r.policy

unfoldable pub row_parts : Regroups (spelled_pair (spelled_pair spelled_number (spelled_pair spelled_bytes (spelled_pair spelled_bytes (spelled_pair spelled_kind (spelled_pair spelled_act (spelled_pair spelled_status spelled_number))))))
    (spelled_pair (spelled_pair spelled_fields (spelled_pair (spelled_option spelled_fields) (spelled_option spelled_facts)))
    (spelled_pair (spelled_list spelled_number) (spelled_pair (spelled_option spelled_number) (spelled_pair (spelled_option spelled_number) (spelled_pair (spelled_option spelled_number) (spelled_pair spelled_number spelled_policy)))))))
    (AreBoth (AreBoth IsNumber (AreBoth IsStackName (AreBoth IsResName (AreBoth IsProperKind (AreBoth IsAct (AreBoth IsStatus IsNumber))))))
    (AreBoth (AreBoth IsProperties (AreBoth (IsIfSome IsProperties) (IsIfSome IsProperFacts)))
    (AreBoth (AreAll IsNumber) (AreBoth (IsIfSome IsNumber) (AreBoth (IsIfSome IsNumber) (AreBoth (IsIfSome IsNumber) (AreBoth IsWord IsPolicy)))))))
    spelled_row IsAnyRow
unfolding spelled_row spelled_row_head spelled_row_contents spelled_row_ties
row_parts = record {
  to = λ t. record {
    no = t.0.0;
    stack = t.0.1.0;
    name = t.0.1.1.0;
    kind = t.0.1.1.1.0;
    act = t.0.1.1.1.1.0;
    status = t.0.1.1.1.1.1.0;
    trav = t.0.1.1.1.1.1.1;
    props = t.1.0.0;
    target = t.1.0.1.0;
    facts = t.1.0.1.1;
    requires_ = t.1.1.0;
    replaces = t.1.1.1.0;
    replaced_by = t.1.1.1.1.0;
    engine = t.1.1.1.1.1.0;
    key = t.1.1.1.1.1.1.0;
    policy = t.1.1.1.1.1.1.1;
  };
  from = λ r. ((r.no, (r.stack, (r.name, (r.kind, (r.act, (r.status, r.trav)))))), ((r.props, (r.target, r.facts)), (r.requires_, (r.replaces, (r.replaced_by, (r.engine, (r.key, r.policy)))))));
  back = λ t. refl;
  again = λ r. refl;
  alike = λ r. refl;
  keeps = λ t h. record {
    no = h.0.0;
    stack = h.0.1.0;
    name = h.0.1.1.0;
    kind = h.0.1.1.1.0;
    act = h.0.1.1.1.1.0;
    status = h.0.1.1.1.1.1.0;
    trav = h.0.1.1.1.1.1.1;
    props = h.1.0.0;
    target = h.1.0.1.0;
    facts = h.1.0.1.1;
    requires_ = h.1.1.0;
    replaces = h.1.1.1.0;
    replaced_by = h.1.1.1.1.0;
    engine = h.1.1.1.1.1.0;
    key = h.1.1.1.1.1.1.0;
    policy = h.1.1.1.1.1.1.1;
  };
  gives = λ r h. ((h.no, (h.stack, (h.name, (h.kind, (h.act, (h.status, h.trav)))))), ((h.props, (h.target, h.facts)), (h.requires_, (h.replaces, (h.replaced_by, (h.engine, (h.key, h.policy)))))));
}

pub any_row_unique : IsUnique spelled_row IsAnyRow
any_row_unique = regrouped_unique row_parts
    (pair_unique (pair_unique drawn_unique (pair_unique stack_name_unique (pair_unique resource_name_unique (pair_unique kind_unique (pair_unique act_unique (pair_unique status_unique drawn_unique))))))
    (pair_unique (pair_unique properties_unique (pair_unique (option_unique properties_unique) (option_unique facts_unique)))
    (pair_unique (list_unique drawn_unique) (pair_unique (option_unique drawn_unique) (pair_unique (option_unique drawn_unique) (pair_unique (option_unique drawn_unique) (pair_unique number_unique policy_unique)))))))

pub any_row : (r : Row) → IsProperRow r → IsAnyRow r
any_row r h = record {
  no = h.no;
  stack = h.stack;
  name = h.name;
  kind = h.kind;
  act = tt;
  status = h.status;
  trav = h.trav;
  props = h.props;
  target = h.target;
  facts = h.facts;
  requires_ = h.requires_;
  replaces = h.replaces;
  replaced_by = h.replaced_by;
  engine = h.engine;
  key = omega (arith, h.key);
  policy = h.policy;
}

pub proper_row : (r : Row) → IsAnyRow r → r.key < 2 ^ 62 → r.act ≢ Rollback → IsProperRow r
proper_row r h key act = record {
  no = h.no;
  stack = h.stack;
  name = h.name;
  kind = h.kind;
  act = act;
  status = h.status;
  trav = h.trav;
  props = h.props;
  target = h.target;
  facts = h.facts;
  requires_ = h.requires_;
  replaces = h.replaces;
  replaced_by = h.replaced_by;
  engine = h.engine;
  key = key;
  policy = h.policy;
}

pub row_unique : IsUnique spelled_row IsProperRow
row_unique = narrowed any_row_unique any_row
