-- `desk::called` meets its contract. Assumes nothing.
use Rattle.desk.proofs.called.Goals as goal

pub returns-in-Create : goal.returns-in-Create
returns-in-Create c = rw c.in-Create.is c.create.ensures

pub returns-in-Stop : goal.returns-in-Stop
returns-in-Stop c = rw c.in-Stop.is c.stop.ensures

pub returns-in-End : goal.returns-in-End
returns-in-End c = rw c.in-End.is c.end.ensures

pub returns-in-Yield : goal.returns-in-Yield
returns-in-Yield c = rw c.in-Yield.is c.yield_now.ensures

pub returns-in-Class : goal.returns-in-Class
returns-in-Class c = rw c.in-Class.is c.class.ensures

pub returns-in-Tick : goal.returns-in-Tick
returns-in-Tick c = rw c.in-Tick.is c.tick.ensures

pub returns-in-Mailbox : goal.returns-in-Mailbox
returns-in-Mailbox c = rw c.in-Mailbox.is c.mailbox.ensures

pub returns-in-Receive : goal.returns-in-Receive
returns-in-Receive c = rw c.in-Receive.is c.receive.ensures

pub returns-in-Release : goal.returns-in-Release
returns-in-Release c = rw c.in-Release.is c.release.ensures

pub returns-in-Signal : goal.returns-in-Signal
returns-in-Signal c = rw c.in-Signal.is c.signal.ensures

pub returns-in-Wait : goal.returns-in-Wait
returns-in-Wait c = rw c.in-Wait.is c.wait.ensures
