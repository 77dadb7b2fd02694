mod ChildPass
