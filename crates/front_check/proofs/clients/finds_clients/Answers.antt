use Rattle.std.proofs.Common.{◌∙◌, true, false, subst}
use Rattle.front_check.specs.Clients.{IsAhead}
use Rattle.front_check.specs.declared.clients.Ahead.{Ahead}
use Rattle.front_check.proofs.Ahead.{clients_on}
use Rattle.front_check.proofs.clients.finds_clients.Goals as goal

pub events-preserved : goal.events-preserved
events-preserved c =
    let ahead : IsAhead Ahead.Other c.events.reader c.look_ahead.new.reader = subst (λ (a : Ahead). IsAhead a c.events.reader c.look_ahead.new.reader) c.in-Other.is c.in_ok-look_ahead.ensures in
    record {
      finished = ahead.3 ∙ c.events.invariant.finished;
      leads = λ found some. c.events.invariant.leads found (clients_on found c.events.reader c.look_ahead.new.reader ahead some);
    }

pub events-smaller : goal.events-smaller
events-smaller c = (subst (λ (a : Ahead). IsAhead a c.events.reader c.look_ahead.new.reader) c.in-Other.is c.in_ok-look_ahead.ensures).2

pub returns-in-Client : goal.returns-in-Client
returns-in-Client c = c.events.invariant.leads true (subst (λ (a : Ahead). IsAhead a c.events.reader c.look_ahead.new.reader) c.in-Client.is c.in_ok-look_ahead.ensures)

pub returns-in-Over : goal.returns-in-Over
returns-in-Over c = c.events.invariant.leads false (subst (λ (a : Ahead). IsAhead a c.events.reader c.look_ahead.new.reader) c.in-Over.is c.in_ok-look_ahead.ensures)
