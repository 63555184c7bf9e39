use Rattle.net_gen.proofs.TextsKeepRules.{rules_ignore_places, networks_ignore_places, texts_keep_rules, texts_have_network}
use Rattle.net_gen.proofs.law.text_laws.Goals as goal

pub returns-clause-rules : goal.returns-clause-rules
returns-clause-rules c = rules_ignore_places

pub returns-clause-networks : goal.returns-clause-networks
returns-clause-networks c = networks_ignore_places

pub returns-clause-keeps : goal.returns-clause-keeps
returns-clause-keeps c = texts_keep_rules

pub returns-clause-network : goal.returns-clause-network
returns-clause-network c = texts_have_network
