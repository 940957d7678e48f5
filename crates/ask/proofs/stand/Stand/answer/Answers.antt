-- `ask::stand::Stand::answer` meets its contract: the answer of whether there is a grant path and whether there is a ban path.
use Rattle.ask.proofs.stand.Stand.answer.Goals as goal

pub returns : goal.returns
returns c =
    record {
      grants = c.has_path-grants.result;
      bans = c.has_path-bans.result;
      granted = c.has_path-grants.ensures;
      banned = c.has_path-bans.ensures;
      number = c.of.ensures;
    }
