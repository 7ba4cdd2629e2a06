-- `answer_text` meets its contract: each job asks its own text's crate. Assumes nothing.
use Rattle.farey.proofs.jobs.answer_text.Goals as goal

pub returns-in-Sheet : goal.returns-in-Sheet
returns-in-Sheet c = rw c.in-Sheet.is c.answer.ensures

pub returns-in-Import : goal.returns-in-Import
returns-in-Import c = rw c.in-Import.is c.answer-in-Import.ensures

pub returns-in-ImportWide : goal.returns-in-ImportWide
returns-in-ImportWide c = rw c.in-ImportWide.is c.answer-in-ImportWide.ensures

pub returns-in-Named : goal.returns-in-Named
returns-in-Named c = rw c.in-Named.is c.answer-in-Named.ensures

pub returns-in-Same : goal.returns-in-Same
returns-in-Same c = rw c.in-Same.is c.answer-in-Same.ensures

pub returns-in-Exchange : goal.returns-in-Exchange
returns-in-Exchange c = rw c.in-Exchange.is c.answer-in-Exchange.ensures

pub returns-in-Intersection : goal.returns-in-Intersection
returns-in-Intersection c = rw c.in-Intersection.is c.answer-in-Intersection.ensures

pub returns-in-Tower : goal.returns-in-Tower
returns-in-Tower c = rw c.in-Tower.is c.answer-in-Tower.ensures

pub returns-in-Cycles : goal.returns-in-Cycles
returns-in-Cycles c = rw c.in-Cycles.is c.answer-in-Cycles.ensures

pub returns-in-ToCycles : goal.returns-in-ToCycles
returns-in-ToCycles c = rw c.in-ToCycles.is c.answer-in-ToCycles.ensures
