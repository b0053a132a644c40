use Rattle.row_codec.proofs.row_puts.put_row.Goals as goal

pub returns-clause-proper : goal.returns-clause-proper
returns-clause-proper c = λ key act. record {
  no = c.put_head.ensures.proper.no;
  stack = c.put_head.ensures.proper.stack;
  name = c.put_head.ensures.proper.name;
  kind = c.put_head.ensures.proper.kind;
  act = act;
  status = c.put_head.ensures.proper.status;
  trav = c.put_head.ensures.proper.trav;
  props = c.put_contents.ensures.proper.props;
  target = c.put_contents.ensures.proper.target;
  facts = c.put_contents.ensures.proper.facts;
  requires_ = c.put_ties.ensures.proper.requires_;
  replaces = c.put_ties.ensures.proper.replaces;
  replaced_by = c.put_ties.ensures.proper.replaced_by;
  engine = c.put_ties.ensures.proper.engine;
  key = key;
  policy = c.put_ties.ensures.proper.policy;
}
